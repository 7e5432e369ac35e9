-- What is said of a document's fault. This project's own rule.
use Rattle.std.specs.Prelude.{codes, ℕ, List, [], ◌++◌, length, ◌==◌, nat_lt, if◌then◌else◌, Option, Some, None}
use Rattle.std.specs.Fmt.{decimal}
use Rattle.tail_settings.specs.Fault.{FaultData, not_toml, missing_key, wrong_kind, out_of_range, double_tenant, too_many}
use Rattle.settings_check.specs.declared.table.Key.{Key}
use Rattle.settings_check.specs.declared.table.TableKind.{TableKind}
use Rattle.settings_check.specs.declared.table.TheConstants.TableKind.{ALL}
use Rattle.settings_check.specs.declared.fault_text.TheConstants.{MANY_POLICIES, MANY_TENANTS, MANY_SPANS}
use Rattle.settings_check.specs.Place.{PlaceData}
use Rattle.settings_check.specs.Table.{title_of, allowed_of, place_of}

-- a line with the table of a key and what is wrong with it, and a line with what it may be
abbrev pub key_lines : PlaceData → List ℕ → List ℕ → Option (TableKind × Key) → List ℕ
key_lines place key what None = []
key_lines place key what (Some found) =
    place.tenant ++ title_of found.0 place.policy ++ codes ": the key " ++ key ++ codes " " ++ what ++ codes "\n"
    ++ key ++ codes " may be: " ++ allowed_of found.1 ++ codes "\n"

-- the fault as the program's other commands tell it, and then the two lines of its key
abbrev pub key_text : PlaceData → ℕ → List ℕ → List ℕ → List ℕ
key_text place number key what =
    codes "settings fault " ++ decimal number ++ codes " " ++ key ++ codes "\n"
    ++ key_lines place key what (place_of key ALL)

-- a name that two tenants have
abbrev pub double_text : List ℕ → List ℕ
double_text name =
    codes "settings fault 14 " ++ name ++ codes "\na second tenant has the name " ++ name ++ codes "\n"

-- what there is too much of: tenants, of which a document is refused before any of them is read, whatever one of them
-- has by itself; or else policies of the tenant that it is in; or else spans of all tenants
abbrev pub too_much : PlaceData → List ℕ
too_much place =
    if nat_lt 1000 place.count then MANY_TENANTS.now
    else if length place.tenant == 0 then MANY_SPANS.now
    else place.tenant ++ MANY_POLICIES.now

-- the line that says so
abbrev pub many_text : PlaceData → List ℕ
many_text place = codes "settings fault 15\n" ++ too_much place

-- what is said of a fault, with the words of where it is; the reader's own words on a text that is no TOML document
abbrev pub fault_text : PlaceData → FaultData → List ℕ → List ℕ
fault_text place not_toml words = codes "settings fault 10\nthe text is no TOML document\n" ++ words
fault_text place (missing_key key) words = key_text place 11 key (codes "is missing")
fault_text place (wrong_kind key) words = key_text place 12 key (codes "is of another kind, or a member of it is")
fault_text place (out_of_range key) words = key_text place 13 key (codes "has a value that it may not have")
fault_text place (double_tenant name) words = double_text name
fault_text place too_many words = many_text place
