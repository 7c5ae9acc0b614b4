-- What both types of domains and of bit domains show.
pub use Rattle.bitvec_domain.specs.Domains.{DomainPieces, bits_of_pieces, enclave_of, part_in, pieces_in, pieces_of, pieces_of_mut, region_of}
pub use Rattle.bitvec_slice.specs.Domains.{IsBitDomain, IsDomain, Views, bits_of_views, enclave_part, enclave_view, list_of_views, parts_of, region_parts, region_views, view_in, views_by, views_in, views_of, views_of_mut}
pub use Rattle.bitvec_slice.specs.DomainsLaws.{enclave_shown, parts_shown, region_shown}
pub use Rattle.bitvec_slice.specs.BitParts.{YieldsParts, parts_left}
