-- The words of the kinds of endpoints and of the attributes that are a choice. A choice's number is its
-- place in its list, from 0.
use Rattle.std.specs.Prelude.{ℕ, List, [], ◌∷◌, Option, None, codes}
use Rattle.sp_base.specs.Choice.{choice_named, place_named}
use Rattle.sp_base.specs.Words.{permission_word, permissions}
use Rattle.sp_config.specs.declared.access_type.AccessType.{AccessType}
use Rattle.sp_config.specs.declared.access_type.AccessType.TheVariants.{Exclusive, NonExclusive}
use Rattle.sp_config.specs.declared.attr.Attr.{Attr}
use Rattle.sp_config.specs.declared.attr.Attr.TheVariants as attr
use Rattle.sp_config.specs.declared.discard.DiscardBehavior.{DiscardBehavior}
use Rattle.sp_config.specs.declared.discard.DiscardBehavior.TheVariants.{Always, WhenQueueEnabled, Never}
use Rattle.sp_config.specs.declared.kind.EndpointKind.{EndpointKind}
use Rattle.sp_config.specs.declared.kind.EndpointKind.TheVariants.{Queue, TopicEndpoint}

-- the access types in their order
abbrev pub access_types : List AccessType
access_types = Exclusive ∷ NonExclusive ∷ []

-- the word for an access type
abbrev pub access_type_word : AccessType → List ℕ
access_type_word Exclusive = codes "exclusive"
access_type_word NonExclusive = codes "non-exclusive"

-- the discard behaviors in their order
abbrev pub behaviors : List DiscardBehavior
behaviors = Always ∷ WhenQueueEnabled ∷ Never ∷ []

-- the word for a discard behavior
abbrev pub behavior_word : DiscardBehavior → List ℕ
behavior_word Always = codes "always"
behavior_word WhenQueueEnabled = codes "when-queue-enabled"
behavior_word Never = codes "never"

-- the place, from 0, of a word among those that the attribute may be
abbrev pub word_place : Attr → List ℕ → Option ℕ
word_place attr.AccessType word = place_named access_type_word access_types word
word_place attr.Permission word = place_named permission_word permissions word
word_place attr.RejectMsgToSenderOnDiscardBehavior word = place_named behavior_word behaviors word
word_place attribute word = None

-- the kinds of endpoints
abbrev pub endpoint_kinds : List EndpointKind
endpoint_kinds = Queue ∷ TopicEndpoint ∷ []

-- the word for a kind
abbrev pub endpoint_kind_word : EndpointKind → List ℕ
endpoint_kind_word Queue = codes "queue"
endpoint_kind_word TopicEndpoint = codes "topic-endpoint"

-- the kind that a word stands for
abbrev pub endpoint_kind_named : List ℕ → Option EndpointKind
endpoint_kind_named word = choice_named endpoint_kind_word endpoint_kinds word
