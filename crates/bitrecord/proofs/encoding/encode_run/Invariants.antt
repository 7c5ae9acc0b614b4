use Rattle.std.proofs.Common.{◌≡◌, ℕ, ◌+◌, ◌^◌, ◌<◌, ◌≤◌, Bool, List, length, slice_index}
use Rattle.bitrecord.specs.Layouts.{field_at}
use Rattle.bitrecord.specs.Runs.{end_of, plain_number}
use Rattle.bitrecord.proofs.encoding.encode_run.Given as goal

-- the word is the number of the fields so far: a list that has it there has the value in each
abbrev pub invariant-loop-number : goal.invariant-loop-number
invariant-loop-number g l =
    let high = g.O.WordOrder.HIGH in
    let fields = l.layout.fields.items in
    record {
      fits : l.word < 2 ^ l.len;
      place : l.number ≤ l.last → (field_at fields l.number).start ≡ (field_at fields l.first).start + l.len;
      whole : l.last < l.number → end_of fields l.last ≡ (field_at fields l.first).start + l.len;
      numbers : (list : List Bool) → (field_at fields l.first).start + l.len ≤ length list → plain_number high list (record { start = (field_at fields l.first).start; len = l.len }) ≡ l.word
          → (k : ℕ) → l.first ≤ k → k < l.number → plain_number high list (field_at fields k) ≡ slice_index l.values k;
    }
