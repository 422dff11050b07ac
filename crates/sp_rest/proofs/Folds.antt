-- A field whose property is none leaves no properties.
use Rattle.std.proofs.Common.{◌≡◌, true, cond, List, [], ◌∷◌, Some, None, refl, sym, ap, ◌∙◌}
use Rattle.std.specs.Option.{option_map}
use Rattle.std.specs.List.{filter, fold}
use Rattle.sp_message.specs.declared.property.Property.{Property}
use Rattle.sp_rest.specs.declared.wire.request.Field.{Field}
use Rattle.sp_rest.specs.Publish.UserProperties.{is_user_property, placed, property_in, with_field}

none_stays : (fields : List Field) → None ≡ fold with_field None fields
none_stays [] = refl
none_stays (f ∷ fields) = none_stays fields

pub none_after : (f : Field) (rest all : List Field) (ps : List Property) → all ≡ f ∷ rest
    → is_user_property f ≡ true → property_in f ≡ None
    → None ≡ fold with_field (Some ps) (filter is_user_property all)
none_after f rest all ps e named none =
    none_stays (filter is_user_property rest)
    ∙ (λ i. fold with_field (option_map (λ p. placed p ps) (sym none i)) (filter is_user_property rest))
    ∙ (λ i. fold with_field (Some ps) (cond (sym named i) (f ∷ filter is_user_property rest) (filter is_user_property rest)))
    ∙ ap (λ (fs : List Field). fold with_field (Some ps) (filter is_user_property fs)) (sym e)
