-- What an answer unfolds to compute what a table or a text means as settings, on literals.
use Rattle.std.specs.Prelude.{⊤}
use Rattle.toml.proofs.OnLiterals.{toml_on_literals}
use Rattle.tail_settings.specs.Keys.{number_at, required_number_at, integer_at, text_at, text_or_at, table_at, tables_at, texts_at, some_tables_at, some_texts_at}
use Rattle.tail_settings.specs.Texts.{address_at, header_at, attribute_key_at}
use Rattle.tail_settings.specs.Global.{global_of}
use Rattle.tail_settings.specs.Policy.{status_code_of, values_of, string_attribute_of, numeric_attribute_of, leaf_of_type, leaf_of, and_of, policy_of, policies_of}
use Rattle.tail_settings.specs.TailSampling.{tail_sampling_of}
use Rattle.tail_settings.specs.Batch.{batch_of}
use Rattle.tail_settings.specs.SendingQueue.{sending_queue_of}
use Rattle.tail_settings.specs.RetryOnFailure.{retry_of}
use Rattle.tail_settings.specs.Section.{section_of}
use Rattle.tail_settings.specs.Settings.{name_of, numbered_tenant, tenants_of, settings_of_table, settings_of}

unfoldable pub tables_on_literals : ⊤
unfolding number_at text_or_at table_at address_at header_at global_of batch_of sending_queue_of retry_of
tables_on_literals = tt

unfoldable pub policies_on_literals : ⊤
unfolding required_number_at integer_at text_at tables_at texts_at some_tables_at some_texts_at attribute_key_at status_code_of values_of string_attribute_of numeric_attribute_of leaf_of_type leaf_of and_of policy_of policies_of
policies_on_literals = tt

unfoldable pub settings_on_literals : ⊤
unfolding tables_on_literals policies_on_literals tail_sampling_of section_of name_of numbered_tenant tenants_of settings_of_table settings_of
settings_on_literals = tt

unfoldable pub texts_on_literals : ⊤
unfolding settings_on_literals toml_on_literals
texts_on_literals = tt
