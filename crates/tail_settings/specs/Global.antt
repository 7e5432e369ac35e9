-- The table `global`: what holds for all tenants. Port 4318 is that of OTLP over HTTP (OTLP/HTTP Request, "Default
-- Port"), and `X-Scope-OrgID` is the header field by which Grafana Tempo and Mimir are told a tenant.
use Rattle.std.specs.Prelude.{codes, ℕ, List, Result, Ok, string_bytes}
use Rattle.toml.specs.Data.{Members}
use Rattle.tail_settings.specs.declared.global.GlobalSettings.{GlobalSettings}
use Rattle.tail_settings.specs.Fault.{FaultData, ◌>>=◌}
use Rattle.tail_settings.specs.Keys.{number_at, table_at}
use Rattle.tail_settings.specs.Texts.{address_at, header_at}

-- groups of tenants, threads for the spans of one body, for connections and for sending, jobs that wait for a sender,
-- where requests come in, and the header field with the tenant's name
pub record GlobalData : Type 0 where
  pub shards : ℕ
  pub parts : ℕ
  pub receivers : ℕ
  pub senders : ℕ
  pub lane_size : ℕ
  pub listen : List ℕ
  pub tenant_header : List ℕ

-- what a Rust value says
abbrev pub global_view : GlobalSettings → GlobalData
global_view g = record {
  shards = g.shards;
  parts = g.parts;
  receivers = g.receivers;
  senders = g.senders;
  lane_size = g.lane_size;
  listen = string_bytes g.listen;
  tenant_header = string_bytes g.tenant_header;
}

-- the table of a document, or its first fault
unfoldable pub global_of : Members → Result GlobalData FaultData
global_of document = do
  global ← table_at (codes "global") document
  shards ← number_at (codes "shards") 1 64 1 global
  parts ← number_at (codes "parts") 1 16 2 global
  receivers ← number_at (codes "receivers") 1 64 4 global
  senders ← number_at (codes "senders") 1 64 4 global
  lane_size ← number_at (codes "lane_size") 1 4096 64 global
  listen ← address_at (codes "listen") (codes "127.0.0.1:4318") global
  tenant_header ← header_at (codes "tenant_header") (codes "x-scope-orgid") global
  Ok (record {
    shards = shards;
    parts = parts;
    receivers = receivers;
    senders = senders;
    lane_size = lane_size;
    listen = listen;
    tenant_header = tenant_header;
  })
