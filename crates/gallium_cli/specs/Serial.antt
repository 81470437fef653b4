-- What a replay promises, in the words of the language and of the texts alone.
use Rattle.std.specs.Prelude.{◌≡◌, ℕ, true, List, ◌++◌, Ok, Option, Some, None, IfSome}
use Rattle.std.specs.Io.KnownBytes.{append_known}
use Rattle.packet_fields.specs.declared.packet.Packet.{Packet}
use Rattle.element_lang.specs.Accepted.{IsSource}
use Rattle.element_lang.specs.Tree.{Tree}
use Rattle.run_model.specs.declared.run.Run.{Run as RunTold}
use Rattle.run_model.specs.Serialises.{Serialises, IsDrained}
use Rattle.run_text.specs.Report.{report_of}
use Rattle.run_text.specs.Trace.{trace_of}
use Rattle.run_audit.specs.Source.{source_of}
use Rattle.traffic_generator.specs.Packets.{packets_of as made_packets}
use Rattle.traffic_generator.specs.Summary.{summary_of}
use Rattle.traffic_generator.specs.Translator.{translator_text}
use Rattle.gallium_cli.specs.Call.{Work}
use Rattle.gallium_cli.specs.Words.{Request, Replay, Lossy, Gen}

-- the told contents spell this middlebox and these packets
pub record AreSpelled (told : List ℕ → Option (List ℕ)) (s t : List ℕ) (m : Tree) (packets : List Packet) : Type 0 where
  pub source : IfSome (told s) (λ text. IsSource text m)
  pub trace : IfSome (told t) (λ text. trace_of text ≡ Ok packets)

-- which middlebox a replay is of, and which packets come to it: its files spell them, or packets are made for the translator
abbrev pub AreReplayed : Request → (List ℕ → Option (List ℕ)) → Tree → List Packet → Type 0
AreReplayed (Replay s t c by) told m packets = AreSpelled told s t m packets
AreReplayed (Lossy s t c l) told m packets = AreSpelled told s t m packets
AreReplayed (Gen seed count) told m packets = IsSource translator_text m × (packets ≡ made_packets seed count)
AreReplayed _ told m packets = ⊥

-- The text tells this run: it is its report; or that with the lines of links behind it; or the summary of it.
abbrev pub TellsOf : Request → Tree → RunTold → List ℕ → Type 0
TellsOf (Replay s t c by) m run text = text ≡ report_of m.objects run
TellsOf (Lossy s t c l) m run text = (lines : List ℕ) × (text ≡ report_of m.objects run ++ lines)
TellsOf (Gen seed count) m run text = (commands : ℕ) × (text ≡ summary_of seed count run commands)
TellsOf _ m run text = ⊥

-- Out received a text that tells a run of the middlebox over the packets, and this run is a serial run of the source.
pub record IsSerialReplay (request : Request) (work : Work) : Type 0 where
  pub m : Tree
  pub packets : List Packet
  pub run : RunTold
  pub text : List ℕ
  pub replayed : AreReplayed request work.files.told m packets
  pub told : TellsOf request m run text
  pub taken : work.out_after.taken ≡ append_known work.out.taken text
  -- what it releases, and what it leaves, is what the source does to the decided packets, one after the other, in the order
  -- that it tells; a packet that was out before another came in stands before it
  pub serialises : Serialises (source_of m packets) run
  -- where it says `drained`, every packet came in and was released with its verdict, and the switch has caught up
  pub drained : run.drained ≡ true → IsDrained (source_of m packets) run

abbrev pub IsSerial : Option Request → Work → Type 0
IsSerial None work = ⊥
IsSerial (Some request) work = IsSerialReplay request work
