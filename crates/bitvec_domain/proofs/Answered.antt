-- A window that closures fill: their answers so far stand in it, from its first place on.
use Rattle.std.specs.Prelude.{◌≡◌, ℕ, ◌+◌, ◌<◌, Bool, false, List, [], ◌∷◌, ◌++◌, length, slice_index_or, slice_set, refl}
use Rattle.std.specs.Array.{FillsFrom, index_steps}
use Rattle.std.specs.Iterator.{CallableAtEachTurn}
use Rattle.std.proofs.Common.{arith, sym, ◌∙◌, ap, subst}
use Rattle.std.proofs.lemmas.List.{length-append}
use Rattle.bitvec_base.specs.declared.window.Window.{Window}
use Rattle.bitvec_base.specs.Memory.{memory_bits, list_in, HasWindow, Writes}
use Rattle.bitvec_base.specs.Window.{window_of, write_window}
use Rattle.bitvec_base.specs.WindowLaws.{window-push, window-rest}
use Rattle.bitvec_base.specs.WriteLaws.{write_at-nil}
use Rattle.bitvec_base.specs.WritesLaws.{within-list, HasWindow-kept}

module _ {F : Type 0} (R : F → ℕ → Bool → F → Type 0) where
  -- one more call after some
  fills-more : (f : F) (k : ℕ) (new : List Bool) (last : F) (i : ℕ) (bit : Bool) (next : F) → k + length new ≡ i → FillsFrom R f k new last → R last i bit next → FillsFrom R f k (new ++ (bit ∷ [])) next
  fills-more f k [] last i bit next at calls call =
      let same : k ≡ i = omega (arith, at) in
      (next, subst (λ (n : ℕ). R f n bit next) (sym same) (subst (λ (g : F). R g i bit next) (sym calls) call), refl)
  fills-more f k (x ∷ new) last i bit next at calls call = (calls.0, calls.1, fills-more calls.0 (k + 1) new last i bit next (omega arith) calls.2 call)

  -- after i calls the answers stand in the window of b-bit elements
  pub record Answered (f last : F) (b : ℕ) (at : ℕ → ℕ → ℕ) (old now : List ℕ) (window : Window) (i : ℕ) : Type 0 where
    pub new : List Bool
    pub calls : FillsFrom R f 0 new last
    pub long : length new ≡ i
    pub bits : memory_bits b at now ≡ write_window (memory_bits b at old) window new
    pub elements : length now ≡ length old

  -- what is left of the calls that are allowed
  abbrev pub MayGoOn : (F → ℕ → Type 0) → ℕ → ℕ → F → Type 0
  MayGoOn may n i f = CallableAtEachTurn (index_steps n) (λ p k q. (bit : Bool) × R p k bit q) may i f

module _ {F : Type 0} {R : F → ℕ → Bool → F → Type 0} where
  pub answered-none : {f : F} {b : ℕ} {at : ℕ → ℕ → ℕ} {old now : List ℕ} {window : Window} → HasWindow b old window → now ≡ old → Answered R f f b at old now window 0
  answered-none {f} {b} {at} {old} {now} {window} has same =
      let within = within-list at has in
      record { new = []; calls = refl; long = refl; bits = ap (memory_bits b at) same ∙ sym (write_at-nil (memory_bits b at old) window.start within.start); elements = ap length same }

  module _ {f last : F} {b : ℕ} {at : ℕ → ℕ → ℕ} {old now : List ℕ} {window : Window} {i : ℕ} (has : HasWindow b old window) (done : Answered R f last b at old now window i) where
    pub answered-window : HasWindow b now window
    answered-window = HasWindow-kept now has done.elements

    module _ (h : i < window.len) where
      pub answered-next : {bit : Bool} {next : F} {after : List ℕ} → R last i bit next → Writes b at now after window (slice_set (list_in b at now window) i bit) → Answered R f next b at old after window (i + 1)
      answered-next {bit} {next} {after} call wrote = record {
        new = done.new ++ (bit ∷ []);
        calls = fills-more R f 0 done.new last i bit next (omega (arith, done.long)) done.calls call;
        long = omega (arith, done.long, length-append done.new (bit ∷ []));
        bits = wrote.bits
            ∙ ap (λ (m : List Bool). write_window m window (slice_set (window_of m window) i bit)) done.bits
            ∙ window-push (memory_bits b at old) done.new bit (within-list at has) done.long h;
        elements = wrote.elements ∙ done.elements;
      }

      -- the next bit is as it was
      pub answered-shown : {bit : Bool} → bit ≡ slice_index_or (list_in b at now window) i false → bit ≡ slice_index_or (list_in b at old window) i false
      answered-shown {bit} read =
          read
          ∙ ap (λ (m : List Bool). slice_index_or (window_of m window) i false) done.bits
          ∙ window-rest (memory_bits b at old) window done.new i false (within-list at has) (omega (arith, done.long)) h

  module _ {may : F → ℕ → Type 0} {n i : ℕ} {f : F} (allowed : MayGoOn R may n i f) (h : i < n) where
    pub may-now : may f i
    may-now = allowed.at [] i f i (i + 1) refl refl (h, refl, refl)

    pub may-next : {bit : Bool} {next : F} → R f i bit next → MayGoOn R may n (i + 1) next
    may-next {bit} {next} call = record { at = λ xs t q x u gave calls more. allowed.at (i ∷ xs) t q x u (i + 1, (h, refl, refl), gave) (next, (bit, call), calls) more }
