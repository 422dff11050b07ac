-- Worked examples, by computation alone: the definitions say what they are to say.
use Rattle.std.proofs.Common.{◌≡◌, true, false, [], ◌∷◌, refl, Some}
use Rattle.std.specs.Prelude.{codes}
use Rattle.sp_topic.specs.Matching.{matches}
use Rattle.sp_topic.specs.Subscription.{subscription_fault}
use Rattle.sp_topic.specs.Subscriptions.{takes}
use Rattle.sp_base.specs.Topic.{topic_fault}

pub any_level : matches (codes "a/*/c") (codes "a/b/c") ≡ true
unfolding matches
any_level = refl

pub level_by_prefix : matches (codes "a/b*/c") (codes "a/b/c") ≡ true
unfolding matches
level_by_prefix = refl

pub rest_of_levels : matches (codes "a/>") (codes "a/b/c") ≡ true
unfolding matches
rest_of_levels = refl

pub rest_of_none : matches (codes "a/b/c/>") (codes "a/b/c") ≡ false
unfolding matches
rest_of_none = refl

pub rest_below_first : matches (codes "a/>") (codes "a") ≡ false
unfolding matches
rest_below_first = refl

pub rest_alone : matches (codes ">") (codes "a/b/c") ≡ true
unfolding matches
rest_alone = refl

pub prefix_with_no_rest : matches (codes "dog*") (codes "dog") ≡ true
unfolding matches
prefix_with_no_rest = refl

pub star_at_empty_level : matches (codes "a/*") (codes "a/") ≡ true
unfolding matches
star_at_empty_level = refl

pub star_in_the_middle : matches (codes "a*b") (codes "axb") ≡ false
unfolding matches
star_in_the_middle = refl

pub excepted : takes (codes "orders/>" ∷ codes "!orders/test/*" ∷ []) (codes "orders/test/1") ≡ false
unfolding matches
excepted = refl

pub excepted_first : takes (codes "!orders/test/*" ∷ codes "orders/>" ∷ []) (codes "orders/test/1") ≡ false
unfolding matches
excepted_first = refl

pub not_excepted : takes (codes "!orders/test/*" ∷ codes "orders/>" ∷ []) (codes "orders/test/1/x") ≡ true
unfolding matches
not_excepted = refl

pub mark_alone : subscription_fault (codes "!") ≡ Some 1
unfolding subscription_fault topic_fault
mark_alone = refl
