-- A reader that walks over the fields of its text has its values and faults by them.
use Rattle.std.proofs.Common.{◌≡◌, ℕ, suc, ◌-◌, List, Err, refl, sym, ◌∙◌}
use Rattle.otlp_read.specs.declared.fault.ReadFault.TheVariants.{TooDeep}
use Rattle.otlp_read.specs.AnyValue.{any_step_in, array_step_in, list_step_in, key_value_step, read_any, read_array, read_list, read_key_value}
use Rattle.otlp_read.specs.Inside.{ReadsByFields}
use Rattle.otlp_read.specs.Walk.{Step, Reader, walk, read_with}
use Rattle.otlp_read.proofs.Laws.{makes, made, stands, apart}
use Rattle.otlp_read.proofs.Opened.{opened_at, any_opened, array_opened, list_opened, key_value_opened}

by_fields : {A : Type 0} (step : ℕ → Step A) (read : ℕ → Reader A) → ((room : ℕ) (a : A) (bytes : List ℕ) → read (suc room) a bytes ≡ walk (step room) (100 - room) a bytes) → ((a : A) (bytes : List ℕ) → read 0 a bytes ≡ Err TooDeep) → ReadsByFields step read
by_fields step read walks deep = record {
  value = λ room a b bytes. (λ e. makes (step room) (100 - room) a b bytes (sym (walks room a bytes) ∙ e), λ m. walks room a bytes ∙ made (step room) (100 - room) a b bytes m);
  fault = λ room a bytes fault e. stands (step room) (100 - room) a bytes fault (sym (walks room a bytes) ∙ e);
  apart = λ room a b bytes fault f m. apart (step room) (100 - room) a b bytes fault f m;
  deep = deep;
}

pub message_by_fields : {A : Type 0} (step : ℕ → Step A) → ReadsByFields step (read_with step)
unfolding read_with
message_by_fields step = by_fields step (read_with step) (opened_at step) (λ a bytes. refl)

pub any_by_fields : ReadsByFields any_step_in read_any
unfolding read_any
any_by_fields = by_fields any_step_in read_any any_opened (λ a bytes. refl)

pub array_by_fields : ReadsByFields array_step_in read_array
unfolding read_any
array_by_fields = by_fields array_step_in read_array array_opened (λ a bytes. refl)

pub list_by_fields : ReadsByFields list_step_in read_list
unfolding read_any
list_by_fields = by_fields list_step_in read_list list_opened (λ a bytes. refl)

pub key_value_by_fields : ReadsByFields key_value_step read_key_value
unfolding read_any
key_value_by_fields = by_fields key_value_step read_key_value key_value_opened (λ a bytes. refl)
