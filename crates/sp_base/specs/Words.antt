-- The words of permissions and of kinds of numbers.
use Rattle.std.specs.Prelude.{ℕ, List, [], ◌∷◌, codes}
use Rattle.sp_base.specs.declared.refusal.Kind.{Kind}
use Rattle.sp_base.specs.declared.refusal.Kind.TheVariants as kind
use Rattle.sp_base.specs.declared.refusal.Permission.{Permission}
use Rattle.sp_base.specs.declared.refusal.Permission.TheVariants.{NoAccess, ReadOnly, Consume, ModifyTopic, Delete}

-- the permissions in rising order
abbrev pub permissions : List Permission
permissions = NoAccess ∷ ReadOnly ∷ Consume ∷ ModifyTopic ∷ Delete ∷ []

-- the word for a permission
abbrev pub permission_word : Permission → List ℕ
permission_word NoAccess = codes "no-access"
permission_word ReadOnly = codes "read-only"
permission_word Consume = codes "consume"
permission_word ModifyTopic = codes "modify-topic"
permission_word Delete = codes "delete"

-- the kinds of numbers in their order
abbrev pub kinds : List Kind
kinds = kind.Endpoint ∷ kind.Message ∷ kind.Copy ∷ kind.Flow ∷ kind.Replay ∷ kind.Unit ∷ []

-- the word for a kind of numbers
abbrev pub kind_word : Kind → List ℕ
kind_word kind.Endpoint = codes "endpoint"
kind_word kind.Message = codes "message"
kind_word kind.Copy = codes "copy"
kind_word kind.Flow = codes "flow"
kind_word kind.Replay = codes "replay"
kind_word kind.Unit = codes "unit"
