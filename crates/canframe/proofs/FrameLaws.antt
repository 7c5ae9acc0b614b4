-- Frames: what makes one, and where none stands.
use Rattle.std.specs.Prelude.{◌≡◌, ◌≢◌, ℕ, ◌+◌, ◌*◌, ◌^◌, ◌<◌, ◌≤◌, Bool, List, length}
use Rattle.std.proofs.Common.{arith, sym, ◌∙◌}
use Rattle.std.proofs.lemmas.List.{ext_get_or}
use Rattle.canframe.specs.Frames.{HasBytes, HasHeader, IsFrame, IsSealed, LacksFrame, field}

-- its parts make a frame
pub framed : (bits : List Bool) (id : ℕ) (bytes : List ℕ) (end : ℕ) → id < 2 ^ 11 → length bytes ≤ 8 → length bits ≡ 40 + 8 * length bytes → HasHeader bits id (length bytes) → HasBytes bits (length bytes) bytes
    → IsSealed bits end → end ≡ 19 + 8 * length bytes → IsFrame bits id bytes
framed bits id bytes end valid few long header stand sealed at = record { valid = valid; few = few; long = long; header = header; stand = stand; sealed = rw at at sealed }

-- ---- one frame, or none

module _ (bits : List Bool) where
  pub lacks-short : length bits < 40 → LacksFrame bits
  lacks-short short = record { none = λ id bytes is. let long = is.long in omega arith }

  pub lacks-long : 104 < length bits → LacksFrame bits
  lacks-long behind = record { none = λ id bytes is. let long = is.long in let few = is.few in omega arith }

  pub lacks-start : field bits 0 1 ≢ 0 → LacksFrame bits
  lacks-start other = record { none = λ id bytes is. other is.header.start_is }

  pub lacks-remote : field bits 12 13 ≢ 0 → LacksFrame bits
  lacks-remote other = record { none = λ id bytes is. other is.header.remote_is }

  pub lacks-extended : field bits 13 14 ≢ 0 → LacksFrame bits
  lacks-extended other = record { none = λ id bytes is. other is.header.extended_is }

  pub lacks-reserved : field bits 14 15 ≢ 0 → LacksFrame bits
  lacks-reserved other = record { none = λ id bytes is. other is.header.reserved_is }

  pub lacks-count : length bits ≢ 40 + 8 * field bits 15 19 → LacksFrame bits
  lacks-count other = record { none = λ id bytes is. let long = is.long in let count = is.header.count_is in other (omega arith) }

  pub lacks-seal : (id count : ℕ) → HasHeader bits id count → (IsSealed bits (19 + 8 * count) → ⊥) → LacksFrame bits
  lacks-seal id count header other = record {
    none = λ number bytes is.
        let same : length bytes ≡ count = sym is.header.count_is ∙ header.count_is in
        let sealed : IsSealed bits (19 + 8 * count) = rw same at is.sealed in
        other sealed;
  }

  -- two frames that stand there are one
  module _ (id other : ℕ) (xs ys : List ℕ) (first : IsFrame bits id xs) (second : IsFrame bits other ys) where
    pub id-same : id ≡ other
    id-same = sym first.header.id_is ∙ second.header.id_is

    pub bytes-same : xs ≡ ys
    bytes-same =
        let long : length xs ≡ length ys = sym first.header.count_is ∙ second.header.count_is in
        ext_get_or 0 xs ys long (λ k inside. sym (first.stand.each k inside) ∙ second.stand.each k (omega (arith, long)))

  pub lacks-none : (id : ℕ) (bytes : List ℕ) → LacksFrame bits → IsFrame bits id bytes → ⊥
  lacks-none id bytes lacks is = lacks.none id bytes is

-- for `using`
pub ruleset heading = (lacks-short, lacks-long, lacks-start, lacks-remote, lacks-extended, lacks-reserved, lacks-count)

pub ruleset reading = (lacks-seal)

pub ruleset returning = (id-same, bytes-same, lacks-none)
