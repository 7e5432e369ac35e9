-- Figures as a scraper reads them: Prometheus' text format 0.0.4.
use Rattle.std.specs.Prelude.{ℕ, ◌==◌, ◌/◌, ◌%◌, List, [], ◌∷◌, ◌++◌, flat_map, Option, Some, None, if◌then◌else◌, codes, decimal}
use Rattle.admin_pages.specs.Figures.{TenantData}
use Rattle.admin_pages.specs.TenantMetric.{all_counters, all_others, value_of, metric_of, help_of, kind_of, kind_word, is_moment}
use Rattle.admin_pages.specs.declared.metrics.Sample.{Sample}
use Rattle.admin_pages.specs.declared.tenant_metric.MetricKind.{MetricKind}
use Rattle.admin_pages.specs.declared.tenant_metric.TenantMetric.{TenantMetric}

-- a byte of a label's value: the backslash, the double quote and the line feed stand behind a backslash
abbrev pub label_byte : ℕ → List ℕ
label_byte byte =
    if byte == 92 then 92 ∷ 92 ∷ []
    else if byte == 34 then 92 ∷ 34 ∷ []
    else if byte == 10 then 92 ∷ 110 ∷ [] else byte ∷ []

-- a label's value
abbrev pub label_text : List ℕ → List ℕ
label_text value = flat_map label_byte value

-- the lines that say what the family of a name is: its help, and its type
abbrev pub head_text : List ℕ → List ℕ → MetricKind → List ℕ
head_text name help kind =
    codes "# HELP " ++ name ++ codes " " ++ help ++ codes "\n# TYPE " ++ name ++ codes " " ++ kind_word kind ++ codes "\n"

-- a sample of a family without labels
abbrev pub sample_text : List ℕ → ℕ → List ℕ
sample_text name value = name ++ codes " " ++ decimal value ++ codes "\n"

-- a sample under one label, whose value is this text
abbrev pub labelled_text : List ℕ → List ℕ → List ℕ → List ℕ → List ℕ
labelled_text name label labelled value =
    name ++ codes "{" ++ label ++ codes "=\"" ++ label_text labelled ++ codes "\"} " ++ value ++ codes "\n"

-- a family of one sample
abbrev pub measure_text : List ℕ → List ℕ → MetricKind → ℕ → List ℕ
measure_text name help kind value = head_text name help kind ++ sample_text name value

-- a figure under one value of a label
abbrev pub sample_of : Sample → List ℕ × ℕ
sample_of sample = (sample.labelled.now, sample.value)

-- samples under one label
abbrev pub labels_text : List ℕ → List ℕ → List (List ℕ × ℕ) → List ℕ
labels_text name label [] = []
labels_text name label (sample ∷ samples) =
    labelled_text name label sample.0 (decimal sample.1) ++ labels_text name label samples

-- a family of samples under one label
abbrev pub measures_text : List ℕ → List ℕ → MetricKind → List ℕ → List (List ℕ × ℕ) → List ℕ
measures_text name help kind label samples = head_text name help kind ++ labels_text name label samples

-- milliseconds as seconds with three digits behind the point
abbrev pub seconds_text : ℕ → List ℕ
seconds_text milliseconds =
    decimal (milliseconds / 1000) ++ codes "." ++ decimal (milliseconds / 100 % 10) ++ decimal (milliseconds / 10 % 10)
    ++ decimal (milliseconds % 10)

-- what a metric of a tenant is, of a moment in seconds
abbrev pub amount_text : TenantMetric → ℕ → List ℕ
amount_text metric value = if is_moment metric then seconds_text value else decimal value

-- a metric of the tenant of this name; no sample where it has no value
abbrev pub tenant_sample : TenantMetric → List ℕ → Option ℕ → List ℕ
tenant_sample metric name (Some value) =
    labelled_text (metric_of metric) (codes "tenant") name (amount_text metric value)
tenant_sample metric name None = []

-- a metric of these tenants
abbrev pub samples_text : TenantMetric → List TenantData → List ℕ
samples_text metric [] = []
samples_text metric (tenant ∷ tenants) =
    tenant_sample metric tenant.name (value_of metric tenant) ++ samples_text metric tenants

-- the family of a metric
abbrev pub family_text : List TenantData → TenantMetric → List ℕ
family_text tenants metric =
    head_text (metric_of metric) (help_of metric) (kind_of metric) ++ samples_text metric tenants

-- the families of these metrics
abbrev pub families_text : List TenantData → List TenantMetric → List ℕ
families_text tenants [] = []
families_text tenants (metric ∷ metrics) = family_text tenants metric ++ families_text tenants metrics

-- all that is told of these tenants in numbers
abbrev pub tenants_text : List TenantData → List ℕ
tenants_text tenants = families_text tenants all_counters ++ families_text tenants all_others
