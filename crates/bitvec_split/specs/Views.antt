-- What contracts see of the splits.
use Rattle.bitvec_store.specs.declared.store.BitStore.{Ghosts as Store}
use Rattle.bitvec_base.specs.declared.order.BitOrder.{Ghosts as Order}
use Rattle.bitvec_slice.specs.Views.{seen}
use Rattle.bitvec_split.specs.Splits.{Left, LimitedSplit}
use Rattle.bitvec_split.specs.declared.splitting.Splits.{Splits}
use Rattle.bitvec_split.specs.declared.limiting.SplitsN.{SplitsN}

module _ {T O P W : Type 0} {t : Store T} {o : Order O} where
  -- What a split of shared views has left.
  abbrev pub left_of : Splits T O P W t o → Left T P
  left_of s = record { rest = seen s.rest; finished = s.finished; pred = s.pred }

  -- What a limited split of shared views has left, and how many pieces it may still give.
  abbrev pub limited_of : SplitsN T O P W t o → LimitedSplit T P
  limited_of s = record { left = left_of s.parts; count = s.count }
