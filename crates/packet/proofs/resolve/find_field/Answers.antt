use Rattle.std.proofs.Common.{◌≡◌, rules, tests, ◌∙◌}
use Rattle.std.proofs.lemmas.Iterator.{YieldsList-from_slice}
use Rattle.std.proofs.lemmas.Iterator.Search.{position_from_yields_List}
use Rattle.std.specs.Prelude.{position}
use Rattle.std.specs.Str.{bytes_eq}
use Rattle.packet.specs.declared.field.Field.{Field}
use Rattle.packet.proofs.PlaceLaws.{place-of}
use Rattle.packet.proofs.resolve.find_field.Goals as goal

pub returns : goal.returns
returns c =
    let here : c.position.result ≡ position (λ (field : Field). bytes_eq field.name.now c.args.name.now) c.args.fields.now =
    position_from_yields_List (λ (field : Field). bytes_eq field.name.now c.args.name.now) _ _ c.position.result c.position.ensures.ran (YieldsList-from_slice _ c.iter.ensures.rest) (λ x b q k. search (rules, tests)) in
    here ∙ place-of c.args.fields.now c.args.name.now
