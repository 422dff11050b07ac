use Rattle.std.proofs.Common.{◌≡◌, ◌∙◌, rules, ap, not, bytes_eq}
use Rattle.std.specs.Prelude.{filter}
use Rattle.std.proofs.lemmas.Fn.{filter_same}
use Rattle.sp_topic.specs.Subscriptions.{has_text}
use Rattle.sp_topic.proofs.Texts.{texts_kept}
use Rattle.sp_topic.proofs.subscriptions.Subscriptions.remove.Goals as goal
use Rattle.sp_topic.proofs.subscriptions.Subscriptions.remove.Goals.{After-retain}

-- what is left are the others
left_are : (c : After-retain) → c.retain.new.self.items ≡ filter (λ s. not (bytes_eq s c.args.subscription.now)) c.args.self.now.items
left_are c =
    filter_same _ (λ s. not (bytes_eq s c.args.subscription.now)) _ (λ x b f k. search rules) c.self.inside.rows.items c.retain.new.self.items c.retain.ensures.filtered
    ∙ ap (λ r. filter (λ s. not (bytes_eq s c.args.subscription.now)) r.items) c.self.view_is

pub returns-clause-items : goal.returns-clause-items
returns-clause-items c = left_are c

pub returns-clause-texts : goal.returns-clause-texts
returns-clause-texts c = λ text.
    ap (λ texts. has_text texts text) (left_are c) ∙ texts_kept c.args.self.now.items c.args.subscription.now text
