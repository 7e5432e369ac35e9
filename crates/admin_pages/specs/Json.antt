-- Figures as JSON (RFC 8259).
use Rattle.std.specs.Prelude.{ℕ, ◌==◌, ◌+◌, ◌/◌, ◌%◌, nat_lt, List, [], ◌∷◌, ◌++◌, flat_map, Option, Some, None, if◌then◌else◌, codes, decimal}
use Rattle.admin_pages.specs.Figures.{TenantData}
use Rattle.admin_pages.specs.TenantMetric.{all_counters, all_others, value_of, word_of}
use Rattle.admin_pages.specs.declared.tenant_metric.TenantMetric.{TenantMetric}

-- a hexadecimal digit, in lower case
abbrev pub hex_digit : ℕ → ℕ
hex_digit n = if nat_lt n 10 then 48 + n else 87 + n

-- a byte of a string (section 7): the quotation mark, the backslash and the control characters are escaped, and all
-- else, the bytes of characters beyond ASCII among it, stands as it is
abbrev pub string_byte : ℕ → List ℕ
string_byte byte =
    if byte == 34 then 92 ∷ 34 ∷ []
    else if byte == 92 then 92 ∷ 92 ∷ []
    else if nat_lt byte 32 then codes "\\u00" ++ hex_digit (byte / 16) ∷ hex_digit (byte % 16) ∷ []
    else byte ∷ []

-- a string
abbrev pub string_text : List ℕ → List ℕ
string_text text = codes "\"" ++ flat_map string_byte text ++ codes "\""

-- a value, or that there is none
abbrev pub value_text : Option ℕ → List ℕ
value_text (Some value) = decimal value
value_text None = codes "null"

-- a number that is told of a tenant, a member of an object behind another one
unfoldable pub member_text : TenantData → TenantMetric → List ℕ
member_text tenant metric = codes ",\"" ++ word_of metric ++ codes "\":" ++ value_text (value_of metric tenant)

-- such members
unfoldable pub members_text : TenantData → List TenantMetric → List ℕ
members_text tenant [] = []
members_text tenant (metric ∷ metrics) = member_text tenant metric ++ members_text tenant metrics

-- the front of a tenant's object: its name, and its counters under the words of a report
unfoldable pub counted_text : TenantData → List ℕ
counted_text tenant = codes "{\"tenant\":" ++ string_text tenant.name ++ members_text tenant all_counters

-- a tenant's figures, without the end of their object: behind that front all others
unfoldable pub figures_text : TenantData → List ℕ
figures_text tenant = counted_text tenant ++ members_text tenant all_others

-- a tenant's figures, as an object
unfoldable pub tenant_text : TenantData → List ℕ
tenant_text tenant = figures_text tenant ++ codes "}"

-- the last counters of a tenant that has gone, as an object: nothing of it is there that could be full, due or
-- answered
unfoldable pub gone_text : TenantData → List ℕ
gone_text tenant = counted_text tenant ++ codes "}"

-- the further members of an array
abbrev pub further_text : List TenantData → List ℕ
further_text [] = []
further_text (tenant ∷ tenants) = codes "," ++ tenant_text tenant ++ further_text tenants

-- an array of tenants
abbrev pub array_text : List TenantData → List ℕ
array_text [] = codes "[]"
array_text (tenant ∷ tenants) = codes "[" ++ tenant_text tenant ++ further_text tenants ++ codes "]"

-- all tenants, as an object with one member
abbrev pub tenants_text : List TenantData → List ℕ
tenants_text tenants = codes "{\"tenants\":" ++ array_text tenants ++ codes "}"
