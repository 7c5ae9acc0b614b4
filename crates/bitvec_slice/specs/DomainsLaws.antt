-- What one part of a bit domain shows, or each of its parts, is among what the bit domain shows.
use Rattle.std.specs.Prelude.{◌≡◌, map, refl}
use Rattle.std.specs.Option.{option_map}
use Rattle.bitvec_slice.specs.Domains.{enclave_part, enclave_view, list_of_views, parts_of, region_parts, region_views, views_by}
use Rattle.bitvec_slice.specs.Seen.{Seen}
use Rattle.bitvec_slice.specs.declared.bit_domain.BitDomain.{BitDomain}
use Rattle.bitvec_slice.specs.declared.bit_domain.BitDomain.TheVariants.{Enclave, Region}

module _ {V T : Type 0} (show : V → Seen T) where
  -- What the one part of a bit domain shows is the one view of what the domain shows.
  pub enclave_shown : (d : BitDomain V) → option_map show (enclave_part d) ≡ enclave_view (views_by show d)
  enclave_shown (Enclave part) = refl
  enclave_shown (Region head body tail) = refl

  -- What head, body and tail of a bit domain show are the three views of what the domain shows.
  pub region_shown : (d : BitDomain V) → option_map (λ given. (show given.0, (show given.1.0, show given.1.1))) (region_parts d) ≡ region_views (views_by show d)
  region_shown (Enclave part) = refl
  region_shown (Region head body tail) = refl

  -- What the parts of a bit domain show are the views that the domain shows, in their order.
  pub parts_shown : (d : BitDomain V) → map show (parts_of d) ≡ list_of_views (views_by show d)
  parts_shown (Enclave part) = refl
  parts_shown (Region head body tail) = refl
