use Rattle.std.proofs.Common.{rules, ◌≡◌, ◌+◌, true, ◌∷◌, drop, None, sym, ap, ◌∙◌}
use Rattle.std.proofs.lemmas.List.{drop_more}
use Rattle.sp_rest.specs.declared.wire.request.Field.{Field}
use Rattle.sp_rest.specs.Publish.UserProperties.{is_user_property, property_in}
use Rattle.sp_rest.proofs.Folds.{none_after}
use Rattle.sp_rest.proofs.publish.user_properties.rows_in.Goals as goal

pub returns-in-None : goal.returns-in-None
returns-in-None c =
    let f = c.field-item.result in
    let i = c.loop-field.field-index in
    let rest = drop (i + 1) c.args.fields.now in
    let front : drop i c.args.fields.now ≡ f ∷ rest = drop_more c.args.fields.now i f c.loop-field-test.true
    ∙ ap (λ (x : Field). x ∷ rest) (sym c.field-item.is) in
    let named : is_user_property f ≡ true = search rules in
    let none : property_in f ≡ None = search rules in
    none_after f rest _ c.loop-field.rows.items front named none ∙ c.loop-field.invariant
