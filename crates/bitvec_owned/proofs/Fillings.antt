-- What is left of a sequence whose elements got more of them at their end, in which all bits are the same.
use Rattle.std.specs.Prelude.{◌≡◌, ℕ, zero, suc, ◌+◌, ◌-◌, ◌*◌, ◌/◌, ◌%◌, ◌^◌, ◌<◌, ◌≤◌, Bool, true, false, List, [], ◌∷◌, ◌++◌, drop, if◌then◌else◌, length, map, replicate, slice_range, take, refl}
use Rattle.std.specs.Int.{div_ceil}
use Rattle.std.proofs.Common.{◌∙◌, ap, append_assoc, arith, length-append, sym}
use Rattle.std.proofs.lemmas.Grind.{div_ceil_times}
use Rattle.std.proofs.lemmas.List.{drop_at, length-replicate, length-take-le, map-append, replicate-append-replicate, take-append-le, take_all, take_at}
use Rattle.std.proofs.lemmas.Nat.{div-add-mod'}
use Rattle.bitvec_base.specs.Memory.{element_bits, memory_bits}
use Rattle.bitvec_base.specs.MemoryLaws.{element-range, length-memory_bits, memory-append}
use Rattle.bitvec_base.specs.Order.{Permutes}
use Rattle.bitvec_base.specs.PartLaws.{element-all, element-none}
use Rattle.bitvec_base.specs.SliceLaws.{range-all}
use Rattle.bitvec_base.specs.Window.{write_at}
use Rattle.bitvec_slice.specs.SeenLaws.{length-memory}
use Rattle.bitvec_owned.specs.Fronts.{LeavesFront}
use Rattle.bitvec_owned.specs.Owned.{rest_bits}
use Rattle.bitvec_owned.proofs.FrontLists.{cut-front, cut-zeros}
use Rattle.bitvec_owned.proofs.Fronts.{times}
use Rattle.bitvec_owned.proofs.Rooms.{more-touched}

-- behind a list came values that are the same; so became its last ones, from the place `end` on, and then all are 0 behind so many
module _ (old first new : List Bool) (end count r : ℕ) (bit : Bool) (inside : end ≤ length old) (fits : end + count ≤ length old + r)
    (filled : first ≡ write_at (old ++ replicate r bit) end (replicate (length old - end) bit))
    (cut : new ≡ write_at first (end + count) (replicate (length old + r - (end + count)) false)) where
  first-is : first ≡ take end old ++ replicate (length old - end + r) bit
  unfolding write_at
  first-is =
      let many = length-replicate (length old - end) bit in
      let last : end + length (replicate (length old - end) bit) ≡ length old = omega arith in
      filled
      ∙ ap (λ (l : List Bool). l ++ (replicate (length old - end) bit ++ drop (end + length (replicate (length old - end) bit)) (old ++ replicate r bit))) (take-append-le end old (replicate r bit) inside)
      ∙ ap (λ (k : ℕ). take end old ++ (replicate (length old - end) bit ++ drop k (old ++ replicate r bit))) last
      ∙ ap (λ (l : List Bool). take end old ++ (replicate (length old - end) bit ++ l)) (drop_at old (replicate r bit) (length old) refl)
      ∙ ap (λ (l : List Bool). take end old ++ l) (replicate-append-replicate (length old - end) r bit)

  parts : first ≡ (take end old ++ replicate count bit) ++ replicate (length old - end + r - count) bit
  parts =
      let sum : length old - end + r ≡ count + (length old - end + r - count) = omega arith in
      first-is
      ∙ ap (λ (k : ℕ). take end old ++ replicate k bit) sum
      ∙ ap (λ (l : List Bool). take end old ++ l) (sym (replicate-append-replicate count (length old - end + r - count) bit))
      ∙ sym (append_assoc (take end old) (replicate count bit) (replicate (length old - end + r - count) bit))

  long : length first ≡ length old + r
  long =
      let front = length-take-le end old inside in
      let many = length-replicate (length old - end + r) bit in
      ap length first-is ∙ length-append (take end old) (replicate (length old - end + r) bit) ∙ omega arith

  all : new ≡ write_at (take (length old + r) first) (end + count) (replicate (length old + r - (end + count)) false)
  all =
      let size = long in
      cut ∙ ap (λ (l : List Bool). write_at l (end + count) (replicate (length old + r - (end + count)) false)) (sym (take_all (length old + r) first (omega arith)))

  pub filled-front : take (end + count) new ≡ take end old ++ replicate count bit
  filled-front =
      let size = long in
      let front = length-take-le end old inside in
      let many = length-replicate count bit in
      let both = length-append (take end old) (replicate count bit) in
      cut-front first new (end + count) (length old + r) fits (omega arith) all
      ∙ ap (take (end + count)) parts
      ∙ take_at (take end old ++ replicate count bit) (replicate (length old - end + r - count) bit) (end + count) (omega arith)

  pub filled-zeros : drop (end + count) new ≡ replicate (length old + r - (end + count)) false
  filled-zeros = let size = long in cut-zeros first new (end + count) (length old + r) fits (omega arith) all

-- where an element begins, no bit of one is left
pub rest-none : (b n : ℕ) → n % b ≡ 0 → rest_bits b n ≡ 0
rest-none b n whole =
    let sum = div-add-mod' n b in
    let product : b * (n / b + 0) ≡ n / b * b = omega arith in
    rw whole (omega arith)

-- the bits of an element that are all the same
pub filling : {T : Type 0} (b : ℕ) (at : ℕ → ℕ → ℕ) (value : T → ℕ) (full none : T) → Permutes b (at b) → value full ≡ 2 ^ b - 1 → value none ≡ 0
    → (bit : Bool) → element_bits b at (value (if bit then full else none)) ≡ replicate b bit
filling b at value full none p ones zeros true = ap (element_bits b at) ones ∙ element-all b at p
filling b at value full none p ones zeros false = ap (element_bits b at) zeros ∙ element-none b at

module _ {T : Type 0} (b : ℕ) (at : ℕ → ℕ → ℕ) (value : T → ℕ) (some : 0 < b) where
  abbrev bits_of : List T → List Bool
  bits_of elements = memory_bits b at (map value elements)

  pub one : (v : ℕ) → memory_bits b at (v ∷ []) ≡ element_bits b at v
  one v =
      let whole = length-memory_bits b at (v ∷ []) in
      let first : 0 * b ≡ 0 = omega arith in
      let only : length (v ∷ []) ≡ 1 = refl in
      sym (range-all (memory_bits b at (v ∷ [])) (0 + b) (omega arith))
      ∙ ap (λ (k : ℕ). slice_range (memory_bits b at (v ∷ [])) k (k + b)) (sym first)
      ∙ element-range b at (v ∷ []) 0 (omega arith)

  module _ (x : T) (bit : Bool) (is : element_bits b at (value x) ≡ replicate b bit) where
    same : (n : ℕ) → bits_of (replicate n x) ≡ replicate (b * n) bit
    unfolding memory_bits
    same zero = let none : b * 0 ≡ 0 = omega arith in rw none refl
    same (suc n) =
        let sum : b + b * n ≡ b * suc n = omega arith in
        memory-append b at (value x ∷ []) (map value (replicate n x)) some
        ∙ ap (λ (l : List Bool). l ++ bits_of (replicate n x)) (one (value x) ∙ is)
        ∙ ap (λ (l : List Bool). replicate b bit ++ l) (same n)
        ∙ replicate-append-replicate b (b * n) bit
        ∙ ap (λ (k : ℕ). replicate k bit) sum

    more : (elements : List T) (n : ℕ) → bits_of (elements ++ replicate n x) ≡ bits_of elements ++ replicate (b * n) bit
    more elements n =
        ap (memory_bits b at) (map-append value elements (replicate n x))
        ∙ memory-append b at (map value elements) (map value (replicate n x)) some
        ∙ ap (λ (l : List Bool). bits_of elements ++ l) (same n)

    -- such elements were added, the last of the others were filled, and the bits behind those that were asked for are 0
    pub filled : (old between new : List T) (end count n : ℕ) → n ≡ length old → n ≡ div_ceil end b
        → between ≡ take (div_ceil (end + count) b) old ++ replicate (div_ceil (end + count) b - n) x → length new ≡ length between
        → bits_of new ≡ write_at (write_at (bits_of between) end (replicate (rest_bits b end) bit)) (end + count) (replicate (rest_bits b (end + count)) false)
        → LeavesFront b at value old new end (take end (bits_of old) ++ replicate count bit)
    filled old between new end count n size touched made many wrote =
        let total = div_ceil (end + count) b in
        let d = total - length old in
        let below = div_ceil_times end b some in
        let above = div_ceil_times (end + count) b some in
        let rest : total - n ≡ d = ap (λ (k : ℕ). total - k) size in
        let order : length old ≤ total = rw (← size) (more-touched b some end count n total touched refl) in
        let added : between ≡ old ++ replicate (total - n) x = made ∙ ap (λ (l : List T). l ++ replicate (total - n) x) (take_all total old order) in
        let both : length between ≡ total =
        ap length added ∙ length-append old (replicate (total - n) x) ∙ ap (λ (k : ℕ). length old + k) (length-replicate (total - n) x) ∙ omega arith in
        let places = length-memory b at value old in
        let sum : b * length old + b * d ≡ b * total = times b (length old) d total (omega arith) in
        let whole : length (bits_of old) + b * d ≡ b * total = ap (λ (k : ℕ). k + b * d) places ∙ sum in
        let inside_old : end ≤ b * length old = rw (← size, touched) (omega arith) in
        let inside : end ≤ length (bits_of old) = omega arith in
        let tail : rest_bits b end ≡ length (bits_of old) - end =
        ap (λ (k : ℕ). k - end) (ap (λ (k : ℕ). b * k) (sym touched ∙ size) ∙ sym places) in
        let behind : rest_bits b (end + count) ≡ length (bits_of old) + b * d - (end + count) =
        ap (λ (k : ℕ). k - (end + count)) (sym whole) in
        let grew : bits_of between ≡ bits_of old ++ replicate (b * d) bit =
        ap bits_of (added ∙ ap (λ (k : ℕ). old ++ replicate k x) rest) ∙ more old d in
        let first : List Bool = write_at (bits_of old ++ replicate (b * d) bit) end (replicate (length (bits_of old) - end) bit) in
        let written : bits_of new ≡ write_at first (end + count) (replicate (length (bits_of old) + b * d - (end + count)) false) =
        wrote
        ∙ ap (λ (l : List Bool). write_at (write_at l end (replicate (rest_bits b end) bit)) (end + count) (replicate (rest_bits b (end + count)) false)) grew
        ∙ ap (λ (k : ℕ). write_at (write_at (bits_of old ++ replicate (b * d) bit) end (replicate k bit)) (end + count) (replicate (rest_bits b (end + count)) false)) tail
        ∙ ap (λ (k : ℕ). write_at first (end + count) (replicate k false)) behind in
        let fits : end + count ≤ length (bits_of old) + b * d = omega arith in
        let front : length (take end (bits_of old)) ≡ end = length-take-le end (bits_of old) inside in
        let long : length (take end (bits_of old) ++ replicate count bit) ≡ end + count =
        length-append (take end (bits_of old)) (replicate count bit) ∙ ap (λ (k : ℕ). k + length (replicate count bit)) front ∙ ap (λ (k : ℕ). end + k) (length-replicate count bit) in
        let room : b * length new ≡ length (bits_of old) + b * d = ap (λ (k : ℕ). b * k) (many ∙ both) ∙ sym whole in
        record {
          bits = rw long (filled-front (bits_of old) first (bits_of new) end count (b * d) bit inside fits refl written);
          count = many ∙ both ∙ ap (λ (k : ℕ). div_ceil k b) (sym long);
          zeros = λ _. rw (long, room) (filled-zeros (bits_of old) first (bits_of new) end count (b * d) bit inside fits refl written);
        }
