-- What is left of a sequence whose elements got more bits at their end, or lost their last ones.
use Rattle.std.specs.Prelude.{◌≡◌, ℕ, ◌+◌, ◌-◌, ◌*◌, ◌<◌, ◌≤◌, Bool, false, List, [], ◌∷◌, ◌++◌, drop, length, map, replicate, slice_range, take, refl}
use Rattle.std.specs.Int.{div_ceil}
use Rattle.std.proofs.Common.{◌∙◌, ap, arith, length-append, sym}
use Rattle.std.proofs.Math.Nat.{mul-le-mul_left}
use Rattle.std.proofs.lemmas.Grind.{div_ceil_times}
use Rattle.std.proofs.lemmas.List.{drop-append-le, length-map, length-replicate, length-take-le, map-append, take-append-le, take-map, take-take, take_all}
use Rattle.std.proofs.lemmas.Slice.{between_from_start}
use Rattle.bitvec_base.specs.FilledLaws.{bits-zeros}
use Rattle.bitvec_base.specs.Memory.{HasWindow, Writes, memory_bits}
use Rattle.bitvec_base.specs.MemoryLaws.{memory-append, memory-range}
use Rattle.bitvec_base.specs.SliceLaws.{range-rest}
use Rattle.bitvec_base.specs.Window.{max_bits, window_of, write_at}
use Rattle.bitvec_slice.specs.Seen.{shown}
use Rattle.bitvec_slice.specs.SeenLaws.{length-memory, length_bits}
use Rattle.bitvec_copying.specs.ElementsLaws.{numbers, refilled, same_length}
use Rattle.bitvec_owned.specs.Copies.{Holds, KeepsAround}
use Rattle.bitvec_owned.specs.Fronts.{LeavesFront}
use Rattle.bitvec_owned.proofs.Rooms.{fewest, more-touched, touched-inside}
use Rattle.bitvec_owned.proofs.FrontLists.{cut-front, cut-zeros, grown-front, grown-zeros, taken-front, taken-zeros, write_around, zeros_before, zeros_behind}

pub times : (b x d c : ℕ) → x + d ≡ c → b * x + b * d ≡ b * c
times b x d c is = rw (← is) (omega arith)

module _ {T : Type 0} (b : ℕ) (at : ℕ → ℕ → ℕ) (value : T → ℕ) (some : 0 < b) where
  abbrev bits_of : List T → List Bool
  bits_of elements = memory_bits b at (map value elements)

  -- the bits of a list's first elements, and those of a list with zeros behind it
  pub bits-first : (elements : List T) (n : ℕ) → n ≤ length elements → bits_of (take n elements) ≡ take (b * n) (bits_of elements)
  bits-first elements n few =
      let xs = map value elements in
      let long = length-map elements value in
      let first : 0 * b ≡ 0 = omega arith in
      let last : n * b ≡ b * n = omega arith in
      ap (memory_bits b at) (sym (take-map value n elements) ∙ sym (between_from_start xs n))
      ∙ memory-range b at xs 0 n some (omega arith) (omega arith)
      ∙ rw (first, last) (between_from_start (memory_bits b at xs) (b * n))

  pub bits-more : (none : T) (elements : List T) (n : ℕ) → value none ≡ 0 → bits_of (elements ++ replicate n none) ≡ bits_of elements ++ replicate (b * n) false
  bits-more none elements n is =
      let xs = map value elements in
      let ys : List ℕ = replicate n 0 in
      let many = length-replicate {A = ℕ} n 0 in
      ap (memory_bits b at) (map-append value elements (replicate n none) ∙ ap (λ (l : List ℕ). xs ++ l) (numbers value none n is))
      ∙ memory-append b at xs ys some
      ∙ ap (λ (l : List Bool). memory_bits b at xs ++ l) (bits-zeros b at ys (rw many refl) ∙ rw many refl)

  -- a window of bits that lie in so many elements
  pub has-window : (elements : List T) (n start len : ℕ) → length elements ≡ n → b * n ≤ max_bits → start + len ≤ b * n → HasWindow b (map value elements) (record { start = start; len = len })
  has-window elements n start len size fits room =
      let bits = ap (λ (k : ℕ). b * k) (length-map elements value ∙ size) in
      record { fits = omega arith; within = record { start = omega arith; len = omega arith } }

  -- ---- what follows from what was left

  module _ (old new : List T) (start len : ℕ) (front : List Bool) (left : LeavesFront b at value old new (start + len) front) (inside : start + len ≤ b * length old)
      (n : ℕ) (long : start + n ≡ length front) (kept : take start front ≡ take start (bits_of old)) where
    room : length front ≤ b * length new
    room = let rounded = div_ceil_times (length front) b some in let count = left.count in rw count (omega arith)

    pub bits-left : (shown b at value new start n).bits ≡ drop start front
    unfolding window_of
    bits-left =
        ap (λ (e : ℕ). slice_range (bits_of new) start e) long
        ∙ sym (range-rest (bits_of new) start (length front))
        ∙ ap (drop start) left.bits

    holds : Holds b (shown b at value old start len).bits start (shown b at value old start len) → Holds b (shown b at value new start n).bits start (shown b at value new start n)
    unfolding window_of
    holds was =
        let many = length-memory b at value old in
        let more = length-memory b at value new in
        let all = room in
        let size : length (shown b at value new start n).bits ≡ n = length_bits b at value new start n (omega arith) in
        let was_size : length (shown b at value old start len).bits ≡ len = length_bits b at value old start len inside in
        let place : start + length (shown b at value old start len).bits ≤ b * length old = omega arith in
        let before = zeros_before (bits_of old) (shown b at value old start len).bits (b * length old) start place was.memory in
        let behind = zeros_behind (bits_of old) (shown b at value old start len).bits (b * length old) start place was.memory (start + len) (omega arith) in
        let first : take start (bits_of new) ≡ replicate start false =
        sym (take-take start (length front) (bits_of new) (omega arith)) ∙ ap (take start) left.bits ∙ kept ∙ before in
        record {
          bits = refl;
          start = refl;
          len = sym size;
          count = rw (size, long) left.count;
          memory = rw long (write_around (bits_of new) (b * length new) start (length front) more (omega arith) all first (left.zeros behind));
        }

    pub around-left : KeepsAround b (shown b at value old start len) (shown b at value new start n)
    around-left = record {
      start = refl;
      front = sym (take-take start (length front) (bits_of new) (omega arith)) ∙ ap (take start) left.bits ∙ kept;
      zeros = holds;
    }

  -- ---- bits added at the end

  module _ (old new : List T) (start len : ℕ) (list : List Bool) (inside : start + len ≤ b * length old)
      (left : LeavesFront b at value old new (start + len) (take (start + len) (bits_of old) ++ list)) (n : ℕ) (is : n ≡ len + length list) where
    front : length (take (start + len) (bits_of old)) ≡ start + len
    front = let many = length-memory b at value old in length-take-le (start + len) (bits_of old) (omega arith)

    long : start + n ≡ length (take (start + len) (bits_of old) ++ list)
    long = let first = front in let both = length-append (take (start + len) (bits_of old)) list in omega arith

    kept : take start (take (start + len) (bits_of old) ++ list) ≡ take start (bits_of old)
    kept =
        let first = front in
        take-append-le start (take (start + len) (bits_of old)) list (omega arith) ∙ take-take start (start + len) (bits_of old) (omega arith)

    pub added-bits : (shown b at value new start n).bits ≡ (shown b at value old start len).bits ++ list
    unfolding window_of
    added-bits =
        let first = front in
        bits-left old new start len _ left inside n long kept
        ∙ drop-append-le start (take (start + len) (bits_of old)) list (omega arith)
        ∙ ap (λ (l : List Bool). l ++ list) (range-rest (bits_of old) start (start + len))

    pub added-around : KeepsAround b (shown b at value old start len) (shown b at value new start n)
    added-around = around-left old new start len _ left inside n long kept

  -- ---- bits taken from the end

  module _ (old new : List T) (start len end : ℕ) (inside : start + len ≤ b * length old) (left : LeavesFront b at value old new (start + len) (take end (bits_of old)))
      (n : ℕ) (is : start + n ≡ end) (few : n ≤ len) where
    cut-long : start + n ≡ length (take end (bits_of old))
    cut-long = let many = length-memory b at value old in is ∙ sym (length-take-le end (bits_of old) (omega arith))

    cut-kept : take start (take end (bits_of old)) ≡ take start (bits_of old)
    cut-kept = take-take start end (bits_of old) (omega arith)

    pub taken-bits : (shown b at value new start n).bits ≡ take n (shown b at value old start len).bits
    unfolding window_of
    taken-bits =
        let size : end - start ≡ n = omega arith in
        let all : start + len - start ≡ len = omega arith in
        bits-left old new start len _ left inside n cut-long cut-kept
        ∙ range-rest (bits_of old) start end
        ∙ rw (size, all) (sym (take-take n len (drop start (bits_of old)) few))

    pub taken-around : KeepsAround b (shown b at value old start len) (shown b at value new start n)
    taken-around = around-left old new start len _ left inside n cut-long cut-kept

  -- ---- what edits of elements leave

  -- elements that are 0 were added, and a list was written
  grown : (none : T) (old between new : List T) (end : ℕ) (list : List Bool) → value none ≡ 0 → length old ≡ div_ceil end b
      → between ≡ take (div_ceil (end + length list) b) old ++ replicate (div_ceil (end + length list) b - length old) none → length new ≡ length between
      → bits_of new ≡ write_at (bits_of between) end list → LeavesFront b at value old new end (take end (bits_of old) ++ list)
  grown none old between new end list is touched made many wrote =
      let count = div_ceil (end + length list) b in
      let size = length-memory b at value old in
      let below = div_ceil_times (end + length list) b some in
      let inside = touched-inside b some end (length old) touched in
      let fewer = more-touched b some end (length list) (length old) count touched refl in
      let added : between ≡ old ++ replicate (count - length old) none = made ∙ ap (λ (l : List T). l ++ replicate (count - length old) none) (take_all count old fewer) in
      let front : length (take end (bits_of old)) ≡ end = length-take-le end (bits_of old) (omega arith) in
      let long : length (take end (bits_of old) ++ list) ≡ end + length list = length-append (take end (bits_of old)) list ∙ ap (λ (k : ℕ). k + length list) front in
      let both : length between ≡ count = ap length added ∙ length-append old (replicate (count - length old) none) ∙ ap (λ (k : ℕ). length old + k) (length-replicate (count - length old) none) ∙ omega arith in
      let written : bits_of new ≡ write_at (bits_of old ++ replicate (b * (count - length old)) false) end list =
      wrote ∙ ap (λ (l : List Bool). write_at l end list) (ap bits_of added ∙ bits-more none old (count - length old) is) in
      let sum : b * length old + b * (count - length old) ≡ b * count = times b (length old) (count - length old) count (omega arith) in
      let total : b * length new ≡ b * count = ap (λ (k : ℕ). b * k) (many ∙ both) in
      record {
        bits = rw long (grown-front (bits_of old) (bits_of new) list end (b * (count - length old)) (omega arith) written);
        count = many ∙ both ∙ ap (λ (k : ℕ). div_ceil k b) (sym long);
        zeros = λ behind. rw (long, total, ← sum, ← size) (grown-zeros (bits_of old) (bits_of new) list end (b * (count - length old)) (omega arith) written (rw size behind));
      }

  -- what a sequence shows afterwards, whose `had` elements were made `have`, lent as a slice and written
  pub grown-shown : (none : T) (old between slice new : List T) (had have start len more : ℕ) (made list : List Bool) → value none ≡ 0 → had ≡ length old → had ≡ div_ceil (start + len) b
      → between ≡ take (div_ceil (start + len + more) b) old ++ replicate (div_ceil (start + len + more) b - had) none → have ≡ length between → slice ≡ between
      → Writes b at (map value slice) (map value new) (record { start = start + len; len = more }) made → made ≡ list
      → ((shown b at value (take have (new ++ drop (length new) between)) start (len + more)).bits ≡ (shown b at value old start len).bits ++ list)
      × KeepsAround b (shown b at value old start len) (shown b at value (take have (new ++ drop (length new) between)) start (len + more))
  grown-shown none old between slice new had have start len more made list is size touched added many same wrote equal =
      let long : more ≡ length list = sym wrote.long ∙ ap length equal in
      let count = same_length value new slice wrote.elements ∙ ap length same in
      let left = grown none old between new (start + len) list is (sym size ∙ touched) (rw (← long, ← size) added) count (wrote.bits ∙ rw (same, equal) refl) in
      let inside = touched-inside b some (start + len) (length old) (sym size ∙ touched) in
      let total : len + more ≡ len + length list = ap (λ (k : ℕ). len + k) long in
      rw (refilled new between have (count ∙ sym many)) (added-bits old new start len list inside left (len + more) total, added-around old new start len list inside left (len + more) total)

  -- the last elements were taken, and zeros written from a place on in those that were left
  pub cut : (old between new : List T) (last end : ℕ) → between ≡ take (div_ceil end b) old → end ≤ b * length old → length new ≡ length between
      → bits_of new ≡ write_at (bits_of between) end (replicate (b * div_ceil end b - end) false) → LeavesFront b at value old new last (take end (bits_of old))
  cut old between new last end fewer inside many wrote =
      let count = div_ceil end b in
      let size = length-memory b at value old in
      let front : length (take end (bits_of old)) ≡ end = length-take-le end (bits_of old) (omega arith) in
      let rounded = div_ceil_times end b some in
      let few : count ≤ length old = fewest b some end (length old) inside in
      let total : length new ≡ count = many ∙ ap length fewer ∙ length-take-le count old few in
      let product : b * length new ≡ b * count = ap (λ (k : ℕ). b * k) total in
      let product_fits : b * count ≤ b * length old = mul-le-mul_left b few in
      let written : bits_of new ≡ write_at (take (b * count) (bits_of old)) end (replicate (b * count - end) false) =
      wrote ∙ ap (λ (l : List Bool). write_at l end (replicate (b * count - end) false)) (ap bits_of fewer ∙ bits-first old count few) in
      record {
        bits = rw front (cut-front (bits_of old) (bits_of new) end (b * count) (omega arith) (omega arith) written);
        count = total ∙ ap (λ (k : ℕ). div_ceil k b) (sym front);
        zeros = λ behind. rw (front, product) (cut-zeros (bits_of old) (bits_of new) end (b * count) (omega arith) (omega arith) written);
      }

  -- a bit became 0, and the last elements were taken
  pub taken : (old between new : List T) (last : ℕ) → last < b * length old → new ≡ take (div_ceil last b) between → length between ≡ length old
      → bits_of between ≡ write_at (bits_of old) last (false ∷ []) → LeavesFront b at value old new (last + 1) (take last (bits_of old))
  taken old between new last inside fewer many wrote =
      let count = div_ceil last b in
      let size = length-memory b at value old in
      let front : length (take last (bits_of old)) ≡ last = length-take-le last (bits_of old) (omega arith) in
      let rounded = div_ceil_times last b some in
      let few : count ≤ length old = fewest b some last (length old) (omega arith) in
      let total : length new ≡ count = ap length fewer ∙ length-take-le count between (omega arith) in
      let product : b * length new ≡ b * count = ap (λ (k : ℕ). b * k) total in
      let product_fits : b * count ≤ b * length old = mul-le-mul_left b few in
      let written : bits_of new ≡ take (b * count) (write_at (bits_of old) last (false ∷ [])) =
      ap bits_of fewer ∙ bits-first between count (omega arith) ∙ ap (take (b * count)) wrote in
      record {
        bits = rw front (taken-front (bits_of old) (bits_of new) last (b * count) (omega arith) (omega arith) written);
        count = total ∙ ap (λ (k : ℕ). div_ceil k b) (sym front);
        zeros = λ behind. rw (front, product) (taken-zeros (bits_of old) (bits_of new) last (b * count) (omega arith) (omega arith) written (rw size behind) (omega arith));
      }
