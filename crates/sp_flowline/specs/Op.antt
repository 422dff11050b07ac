-- The operations of the line protocol, and the fields of each.
use Rattle.std.specs.Prelude.{ℕ, List, [], ◌∷◌, codes}
use Rattle.sp_json.specs.Names.{FieldsOf}
use Rattle.sp_flowline.specs.declared.op.Op.{Op}
use Rattle.sp_flowline.specs.declared.op.Op.TheVariants.{Provision, Deprovision, Change, Subscribe, Unsubscribe}
use Rattle.sp_flowline.specs.declared.op.Op.TheVariants.{Publish, Bind, Unbind, Pull, Settle, Tick, Delete}
use Rattle.sp_flowline.specs.declared.op.Op.TheVariants.{Tally, Copy, Flows}

-- all operations
abbrev pub all_ops : List Op
all_ops =
    Provision ∷ Deprovision ∷ Change ∷ Subscribe ∷ Unsubscribe ∷ Publish
    ∷ Bind ∷ Unbind ∷ Pull ∷ Settle ∷ Tick ∷ Delete ∷ Tally ∷ Copy ∷ Flows ∷ []

-- the word for an operation
abbrev pub op_word : Op → List ℕ
op_word Provision = codes "provision"
op_word Deprovision = codes "deprovision"
op_word Change = codes "change"
op_word Subscribe = codes "subscribe"
op_word Unsubscribe = codes "unsubscribe"
op_word Publish = codes "publish"
op_word Bind = codes "bind"
op_word Unbind = codes "unbind"
op_word Pull = codes "pull"
op_word Settle = codes "settle"
op_word Tick = codes "tick"
op_word Delete = codes "delete"
op_word Tally = codes "tally"
op_word Copy = codes "copy"
op_word Flows = codes "flows"

-- the fields of a request of an operation: those that have to be there, those of which one has to be there, and
-- those that may be
abbrev pub fields_of : Op → FieldsOf
fields_of Provision = record {
  required = codes "op" ∷ codes "endpoint" ∷ [];
  one_of = [];
  optional = codes "kind" ∷ codes "attributes" ∷ [];
}
fields_of Deprovision = record { required = codes "op" ∷ codes "endpoint" ∷ []; one_of = []; optional = [] }
fields_of Change =
    record { required = codes "op" ∷ codes "endpoint" ∷ codes "attributes" ∷ []; one_of = []; optional = [] }
fields_of Subscribe =
    record { required = codes "op" ∷ codes "endpoint" ∷ codes "subscription" ∷ []; one_of = []; optional = [] }
fields_of Unsubscribe =
    record { required = codes "op" ∷ codes "endpoint" ∷ codes "subscription" ∷ []; one_of = []; optional = [] }
fields_of Publish = record {
  required = codes "op" ∷ [];
  one_of = codes "topic" ∷ codes "queue" ∷ [];
  optional =
      codes "mode" ∷ codes "payload" ∷ codes "payload64" ∷ codes "ttl" ∷ codes "dmq" ∷ codes "properties" ∷ [];
}
fields_of Bind = record {
  required = codes "op" ∷ codes "endpoint" ∷ [];
  one_of = [];
  optional = codes "selector" ∷ codes "topic" ∷ [];
}
fields_of Unbind = record { required = codes "op" ∷ codes "flow" ∷ []; one_of = []; optional = [] }
fields_of Pull = record { required = codes "op" ∷ codes "flow" ∷ []; one_of = []; optional = codes "count" ∷ [] }
fields_of Settle =
    record { required = codes "op" ∷ codes "flow" ∷ codes "copy" ∷ codes "outcome" ∷ []; one_of = []; optional = [] }
fields_of Tick = record { required = codes "op" ∷ []; one_of = []; optional = [] }
fields_of Delete =
    record { required = codes "op" ∷ codes "endpoint" ∷ []; one_of = []; optional = codes "copy" ∷ [] }
fields_of Tally = record { required = codes "op" ∷ []; one_of = []; optional = codes "endpoint" ∷ [] }
fields_of Copy = record { required = codes "op" ∷ codes "copy" ∷ []; one_of = []; optional = [] }
fields_of Flows = record { required = codes "op" ∷ codes "endpoint" ∷ []; one_of = []; optional = [] }
