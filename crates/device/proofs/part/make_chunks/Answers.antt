use Rattle.std.proofs.Common.{◌≡◌, ℕ, ◌*◌, ◌++◌, List, length, take, replicate, ap, subst, arith}
use Rattle.std.proofs.lemmas.Grind.{common_steps}
use Rattle.std.proofs.lemmas.List.{drop-replicate, length-take-le}
use Rattle.device.specs.Chunks.{HaveNumbers}
use Rattle.device.proofs.part.make_chunks.Goals as goal

pub returns : goal.returns
returns c =
    let count : ℕ = c.args.count in
    let short : length (take count (replicate 8 255)) ≡ count = length-take-le count (replicate 8 255) c.requires in
    record {
      front = c.number_chunks.new.bytes;
      long = grind (arith, common_steps, short);
      numbers = subst (λ (n : ℕ). HaveNumbers (8 * n) c.number_chunks.new.bytes) short c.number_chunks.ensures;
      is = ap (λ (ys : List ℕ). c.number_chunks.new.bytes ++ ys) (drop-replicate count 8 255);
    }
