-- What contracts see of a core's fields.
use Rattle.std.specs.Prelude.{◌+◌}
use Rattle.sp_core.specs.State.{CoreState}
use Rattle.sp_core.specs.declared.state.Core.TheInside.{Inside}

abbrev pub core_state : Inside → CoreState
core_state c = record {
  endpoints = c.endpoints;
  messages = c.messages;
  copies = c.copies;
  flows = c.flows;
  next_endpoint = c.next_endpoint;
  next_message = c.next_message;
  next_replay = c.next_replay;
  next_unit = c.last_unit + 1;
  clock = c.clock;
}
