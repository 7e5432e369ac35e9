use Rattle.otlp_read.proofs.Inside.{any_by_fields, array_by_fields, list_by_fields, key_value_by_fields}
use Rattle.otlp_read.proofs.Opened.{attribute_read}
use Rattle.otlp_read.proofs.value.attribute_values_inside.Goals as goal

pub returns : goal.returns
returns c = record {
  value = any_by_fields;
  array = array_by_fields;
  list = list_by_fields;
  key_value = key_value_by_fields;
  attribute = attribute_read;
}
