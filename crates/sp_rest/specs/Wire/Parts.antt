-- What a request is made of.
use Rattle.std.specs.Prelude.{ℕ, List}
use Rattle.sp_rest.specs.declared.wire.request.Field.{Field}

-- a method, a target, the fields in their order, and a body
pub record Request : Type 0 where
  pub method : List ℕ
  pub target : List ℕ
  pub fields : List Field
  pub body : List ℕ
