-- A bound of the bytes that the batches of each tenant have together while they wait to be sent: `queue_size` with
-- `sizer: bytes` of the Collector's exporterhelper (its README, "Sending Queue"), beside the number of batches and not in
-- its place. No document says it, it is one for all tenants, and what a drain makes isn't bounded: this project's own
-- rule.
use Rattle.std.specs.Prelude.{ℕ, map}
use Rattle.tail_settings.specs.Section.{SectionData}
use Rattle.tail_settings.specs.Settings.{TenantData, SettingsData}

-- a section in which they have at most so many
abbrev pub bounded_section : ℕ → SectionData → SectionData
bounded_section bytes s = record s { sending_queue = record (s.sending_queue) { queue_bytes = bytes } }

-- a tenant with such a section
abbrev pub bounded_tenant : ℕ → TenantData → TenantData
bounded_tenant bytes t = record t { section = bounded_section bytes t.section }

-- settings in which each tenant has such a section, and each that comes gets one
abbrev pub bounded : ℕ → SettingsData → SettingsData
bounded bytes s = record s { tenants = map (bounded_tenant bytes) s.tenants; queue_bytes = bytes }
