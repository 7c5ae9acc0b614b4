use Rattle.std.proofs.Common.{◌≡◌, ℕ, ◌<◌, ◌≤◌, slice_index}
use Rattle.bitvec.specs.Views.{seen}
use Rattle.bitrecord.specs.Layouts.{field_at}
use Rattle.bitrecord.specs.Records.{field_number}
use Rattle.bitrecord.specs.Runs.{across, aligned, plain_number}
use Rattle.bitrecord.proofs.decoding.decode_run.Given as goal

abbrev pub invariant-loop-field : goal.invariant-loop-field
invariant-loop-field g l =
    let high = g.O.WordOrder.HIGH in
    let fields = l.layout.fields.items in
    record {
      word : l.field ≤ l.last → l.word ≡ aligned high (plain_number high (seen l.view).bits (across fields l.field l.last)) (across fields l.field l.last).len;
      done : (k : ℕ) → l.first ≤ k → k < l.field → slice_index l.out k ≡ field_number l.fn.endian high g.T.BitStore.BITS (seen l.view).window.start (seen l.view).bits (field_at fields k);
      kept : (k : ℕ) → k < l.first → slice_index l.out k ≡ slice_index l.initial.out k;
    }
