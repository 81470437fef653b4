-- The header of a capture, beside its records.
use Rattle.std.specs.Prelude.{◌≡◌, ℕ, ◌<◌, ◌≤◌, ◌^◌, List, length, take}
use Rattle.pcap_trace.specs.declared.header.Header.{Header}
use Rattle.pcap_trace.specs.declared.pcap.Pcap.{Pcap}
use Rattle.pcap_trace.specs.declared.records.Record.{Record}
use Rattle.pcap_trace.specs.Format.{header}

-- the bytes begin with this header
pub record IsHeader (bytes : List ℕ) (h : Header) : Type 0 where
  pub long : 24 ≤ length bytes
  pub text : take 24 bytes ≡ header h.big h.nano h.zone h.sigfigs h.snaplen
  pub zone : h.zone < 2 ^ 32
  pub sigfigs : h.sigfigs < 2 ^ 32
  pub snaplen : h.snaplen < 2 ^ 32

-- the capture of a header and records
abbrev pub capture_of : Header → List Record → Pcap
capture_of h rs = record {
  big = h.big;
  nano = h.nano;
  zone = h.zone;
  sigfigs = h.sigfigs;
  snaplen = h.snaplen;
  records = rs;
}
