-- What is fields at a depth is fields at each lesser depth, so a view needn't know how deep its text lay.
use Rattle.std.proofs.Common.{ℕ, ◌+◌, ◌≤◌, List, arith}
use Rattle.pb_wire.specs.Grammar.{Entry, IsField, varint_field, eight_field, bytes_field, four_field, group_field, Fields, no_fields, more_fields}

mutual
  pub field_shallower : {d : ℕ} {text : List ℕ} {field : Entry} → IsField d text field → (e : ℕ) → e ≤ d → IsField e text field
  field_shallower (varint_field is spelled) e le = varint_field is spelled
  field_shallower (eight_field is long) e le = eight_field is long
  field_shallower (bytes_field is spelled) e le = bytes_field is spelled
  field_shallower (four_field is long) e le = four_field is long
  field_shallower (group_field lt is inner closed) e le = group_field (omega arith) is (fields_shallower inner (e + 1) (omega arith)) closed

  pub fields_shallower : {d : ℕ} {text : List ℕ} {fields : List Entry} → Fields d text fields → (e : ℕ) → e ≤ d → Fields e text fields
  fields_shallower no_fields e le = no_fields
  fields_shallower (more_fields first others) e le = more_fields (field_shallower first e le) (fields_shallower others e le)
