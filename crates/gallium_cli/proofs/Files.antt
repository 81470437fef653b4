-- What the reading of one file shows, and what is passed and refused one after the other.
use Rattle.std.proofs.Common.{◌≡◌, ◌≤◌, ℕ, false, List, [], ◌∷◌, ◌++◌, length, Option, Some, None, IfSome, subst, ap, sym, ◌∙◌, inl, inr, Result, IfErr}
use Rattle.std.proofs.Math.Path.{fun_ext}
use Rattle.std.proofs.lemmas.Option.{IfSome_then}
use Rattle.std.proofs.lemmas.Result.{IfErr-weaker}
use Rattle.gal_io.specs.Files.{FilesState, Gives}
use Rattle.gal_io.specs.declared.files.ReadEnd.TheVariants as ends
use Rattle.packet_fields.specs.declared.packet.Packet.{Packet}
use Rattle.element_lang.specs.Tree.{Tree}
use Rattle.element_chain.specs.declared.chain.Chain.{Chain as ChainTold}
use Rattle.flatten.specs.Flatten.{flat_of}
use Rattle.split_model.specs.declared.split.Part.{Part}
use Rattle.run_text.specs.declared.plan.Plan.{Plan}
use Rattle.run_model.specs.declared.link_event.LinkEvent.{LinkEvent}
use Rattle.gallium_cli.specs.declared.status.Status.TheVariants as statuses
use Rattle.gallium_cli.specs.declared.refusal.Refusal.{Refusal}
use Rattle.gallium_cli.specs.declared.refusal.Refusal.TheVariants.{TooLong, ReadFault, NoMemory}
use Rattle.switch_ir.specs.Port.{PortState}
use Rattle.gallium_cli.specs.Words.{Splitting, ServerAlone, Within, Spelled, Request, Run, Compile, Replay, Lossy, Check, Audit as Audited, Chain as Chained}
use Rattle.gallium_cli.specs.Words.{Gen, PcapIn, PcapOut}
use Rattle.gallium_cli.specs.Roles.{Role, source, program, limits, legal_split, true_report, wiring, trace, schedule, capture, link_schedule, IsGood, IsSpelled}
use Rattle.gallium_cli.specs.Roles.{Gate, File, Choice, SplitFile, ReportFile, Composed, gates_of, split_gates, event_gates, link_gates, size_of}
use Rattle.gallium_cli.specs.Links.{IsLinkTraffic}
use Rattle.gallium_cli.specs.Answers.{IsAnswer, IsAuditInput, IsProgram, IsSplitBy, IsTraffic}
use Rattle.gallium_cli.specs.Loads.{LeavesFiles, IsUnread, IsFileRefused, AreBytesOf}
use Rattle.gallium_cli.specs.Chains.{IsClassRefused, IsFirstClassRefused, IsWired, class_files}
use Rattle.gallium_cli.specs.Causes.{IsRefusedAt, IsPassed, AllPassed, IsFirstRefused}
use Rattle.gallium_cli.proofs.Told.{at_gates}

-- ## One file

-- what the bytes that were read spell, the told content spells
told_text : (P : List ℕ → Type 0) (bytes : List ℕ) (told : Option (List ℕ))
    → IfSome told (λ content. bytes ≡ content) → P bytes → IfSome told P
told_text P bytes None same holds = tt
told_text P bytes (Some content) same holds = subst P same holds

-- a file whose text isn't read is refused
unread_refused : (refusal : Refusal) (role : Role) (bytes name : List ℕ) (f f' : FilesState)
    → AreBytesOf bytes name (size_of role) f → IsUnread refusal role bytes → IsFileRefused refusal role name f f'
unread_refused NoMemory role bytes name f f' loaded unread = tt
unread_refused (TooLong blamed) role bytes name f f' loaded unread = absurd unread.0
unread_refused (ReadFault blamed) role bytes name f f' loaded unread = absurd unread.0
unread_refused refusal role bytes name f f' loaded unread =
    (unread.0, told_text _ bytes (f.told name) loaded.1 (loaded.0, unread.1))

-- so is one of which a reader refuses the bytes that were read
pub read_refused : {A : Type 0} (result : Result A Refusal) (role : Role) (bytes into name : List ℕ) (max : ℕ)
    (f f' : FilesState) → bytes ≡ into → max ≡ size_of role → Gives ends.Done (f.told name) max into
    → IfErr result (λ refusal. IsUnread refusal role bytes)
    → IfErr result (λ refusal. IsFileRefused refusal role name f f')
read_refused result role bytes into name max f f' same size gives unread =
    let loaded : AreBytesOf bytes name (size_of role) f =
    subst (λ (n : ℕ). AreBytesOf bytes name n f) size (subst (λ (b : List ℕ). AreBytesOf b name max f) (sym same) gives) in
    IfErr-weaker result (λ refusal. IsUnread refusal role bytes) (λ refusal. IsFileRefused refusal role name f f')
    (λ refusal here. unread_refused refusal role bytes name f f' loaded here) unread

-- ## What is passed

-- a file that spells what it is to, where it is told, is passed
pub passed : (role : Role) (P : List ℕ → Type 0) (told : Option (List ℕ))
    → IfSome told (λ text. (length text ≤ size_of role) × P text) → ((text : List ℕ) → P text → IsSpelled role text)
    → IfSome told (IsGood role)
passed role P told spelled follows = IfSome_then told spelled (λ text h. (h.0, follows text h.1))

pub passed_wiring : (told : List ℕ → Option (List ℕ)) (w : List ℕ) (chain : ChainTold) → IsWired told w chain
    → IsPassed (File w wiring) told
passed_wiring told w chain wired = passed wiring _ _ wired (λ text h. (chain, h))

passed_program : (told : List ℕ → Option (List ℕ)) (s : List ℕ) (m : Tree) → IsProgram told s m
    → IsPassed (File s program) told
passed_program told s m is = passed program _ _ is.source (λ text h. (m, h.source, is.bounded.few))

-- what a split goes through that is found
pub split_passed : (by : Splitting) (s : List ℕ) (told : List ℕ → Option (List ℕ)) (m : Tree) (split : List Part)
    (writeback : ℕ) → IsSplitBy by told s m split writeback → AllPassed (split_gates s by) told
split_passed ServerAlone s told m split writeback found = (passed_program told s m found.0, tt)
split_passed (Within l shrink) s told m split writeback (allowed, plan, choice, rows) = (
  passed_program told s m plan.program,
  (passed limits _ _ plan.limits (λ text h. (allowed, h)), ((m, allowed, split, plan, choice.chosen), tt)),
)
split_passed (Spelled l p) s told m split writeback (allowed, plan, given, rows) = (
  passed_program told s m plan.program,
  (
    passed limits _ _ plan.limits (λ text h. (allowed, h)),
    ((m, allowed, plan, passed (legal_split (flat_of m) allowed) _ _ given.spelled (λ text h. (split, h, given.accepted))), tt),
  ),
)

-- gates that are passed, and then others
passed_both : (gates more : List Gate) (told : List ℕ → Option (List ℕ)) → AllPassed gates told → AllPassed more told
    → AllPassed (gates ++ more) told
passed_both [] more told first second = second
passed_both (gate ∷ gates) more told first second = (first.0, passed_both gates more told first.1 second)

-- a split, a trace and events that are read
pub replay_passed : (by : Splitting) (s t c : List ℕ) (told : List ℕ → Option (List ℕ)) (m : Tree) (split : List Part)
    (writeback : ℕ) (packets : List Packet) (plan : Plan) → IsSplitBy by told s m split writeback
    → IsTraffic told t c packets plan → AllPassed (split_gates s by ++ event_gates t c) told
replay_passed by s t c told m split writeback packets plan found traffic =
    passed_both (split_gates s by) (event_gates t c) told (split_passed by s told m split writeback found) (
      passed trace _ _ traffic.trace (λ text h. (packets, h)),
      (passed schedule _ _ traffic.schedule (λ text h. (plan, h)), tt),
    )

pub link_passed : (s t c l : List ℕ) (told : List ℕ → Option (List ℕ)) (m : Tree) (split : List Part) (writeback : ℕ)
    (packets : List Packet) (events : List LinkEvent) → IsSplitBy (Within l false) told s m split writeback
    → IsLinkTraffic told t c packets events → AllPassed (split_gates s (Within l false) ++ link_gates t c) told
link_passed s t c l told m split writeback packets events found traffic =
    passed_both (split_gates s (Within l false)) (link_gates t c) told
    (split_passed (Within l false) s told m split writeback found) (
      passed trace _ _ traffic.trace_is (λ text h. (packets, h)),
      (passed link_schedule _ _ traffic.schedule_is (λ text h. (events, h)), tt),
    )

-- what an answer has passed
pub answer_passed : (text : List ℕ) (request : Request) (told : List ℕ → Option (List ℕ)) (p p' : PortState)
    → IsAnswer text request told p p' → AllPassed (gates_of request) told
answer_passed text (Run s t) told p p' (m, packets, input, printed) = (
  passed source _ _ input.source (λ text h. (m, h.source)),
  (passed trace _ _ input.trace (λ text h. (packets, h)), tt),
)
answer_passed text (Compile s l shrink) told p p' (m, split, writeback, found, printed) =
    split_passed (Within l shrink) s told m split writeback found
answer_passed text (Replay s t c by) told p p' (m, split, writeback, packets, plan, replayed, found, traffic, report) =
    replay_passed by s t c told m split writeback packets plan found traffic
answer_passed text (Lossy s t c l) told p p' (m, split, writeback, packets, events, run, found, traffic, report) =
    link_passed s t c l told m split writeback packets events found traffic
answer_passed text (Check s l split) told p p' (m, parts, writeback, found, printed) =
    split_passed (Spelled l split) s told m parts writeback found
answer_passed text (Audited s t r) told p p' (m, packets, run, found, true_file, printed) = (
  passed source _ _ found.input.source (λ text h. (m, h.source)),
  (
    passed trace _ _ found.input.trace (λ text h. (packets, h)),
    (
      (m, packets, found, passed (true_report m packets) _ _ true_file.report (λ text h. (run, h, true_file.serial))),
      tt,
    ),
  ),
)
answer_passed text (Chained w) told p p' (chain, ms, wired, are, one) =
    (passed_wiring told w chain wired, ((chain, ms, wired, are, one.unrefused), tt))
answer_passed text (Gen seed count) told p p' answer = tt
answer_passed text (PcapIn c port) told p p' (found, is_told, printed) =
    (passed capture _ _ is_told (λ bytes h. (found, h)), tt)
answer_passed text (PcapOut t big nano) told p p' (packets, is_told, printed) =
    (passed trace _ _ is_told (λ text h. (packets, h)), tt)

-- ## After other reads

-- what is told of the contents is as before
pub told_before : (P : (List ℕ → Option (List ℕ)) → Type 0) (f g : FilesState) → LeavesFiles statuses.Done f g → P g.told
    → P f.told
told_before P f g goes h = subst P (fun_ext goes.told) h

-- files after reads of which none failed differ in the number of reads alone
same_but_reads : (f g : FilesState) → LeavesFiles statuses.Done f g → g ≡ record f { reads = g.reads }
same_but_reads f g goes =
    ap (λ (told : List ℕ → Option (List ℕ)). record g { told = told }) (fun_ext goes.told)
    ∙ ap (λ (n : ℕ). record g { told = f.told; faults = n }) goes.faults
    ∙ ap (λ (name : Option (List ℕ)). record g { told = f.told; faults = f.faults; fault_name = name }) goes.fault_name
    ∙ ap (λ (n : ℕ). record f { reads = g.reads; overlong_name = g.overlong_name; overlong = n }) goes.overlong
    ∙ ap (λ (name : Option (List ℕ)). record f { reads = g.reads; overlong_name = name }) goes.overlong_name

-- and no refusal speaks of that
file_whatever : (refusal : Refusal) (role : Role) (name : List ℕ) (f h : FilesState) (n : ℕ)
    → IsFileRefused refusal role name (record f { reads = n }) h → IsFileRefused refusal role name f h
file_whatever NoMemory role name f h n refused = refused
file_whatever _ role name f h n refused = refused

class_whatever : (refusal : Refusal) (name : List ℕ) (f h : FilesState) (n : ℕ)
    → IsClassRefused refusal name (record f { reads = n }) h → IsClassRefused refusal name f h
class_whatever NoMemory name f h n refused = refused
class_whatever _ name f h n refused = refused

classes_whatever : (refusal : Refusal) (names : List (List ℕ)) (f h : FilesState) (n : ℕ)
    → IsFirstClassRefused refusal names (record f { reads = n }) h → IsFirstClassRefused refusal names f h
classes_whatever refusal names f h n first =
    at_gates (λ name. IfSome (f.told name) (IsGood source)) (λ name. IsClassRefused refusal name (record f { reads = n }) h)
    (λ name. IsClassRefused refusal name f h) (λ name here. class_whatever refusal name f h n here) names first

gate_whatever : (refusal : Refusal) (gate : Gate) (f h : FilesState) (n : ℕ)
    → IsRefusedAt refusal gate (record f { reads = n }) h → IsRefusedAt refusal gate f h
gate_whatever refusal (File name role) f h n refused = file_whatever refusal role name f h n refused
gate_whatever refusal (Choice s l shrink) f h n refused = refused
gate_whatever refusal (SplitFile s l p) f h n (m, allowed, found, refused) =
    (m, allowed, found, file_whatever refusal (legal_split (flat_of m) allowed) p f h n refused)
gate_whatever refusal (ReportFile s t r) f h n (m, packets, found, refused) =
    (m, packets, found, file_whatever refusal (true_report m packets) r f h n refused)
gate_whatever refusal (Composed w) f h n (chain, wired, inl first) =
    (chain, wired, inl (classes_whatever refusal (class_files chain.elements) f h n first))
gate_whatever refusal (Composed w) f h n (chain, wired, inr why) = (chain, wired, inr why)

-- so what is refused after such reads is refused as if they hadn't been
pub refused_later : (refusal : Refusal) (role : Role) (name : List ℕ) (f g h : FilesState)
    → LeavesFiles statuses.Done f g → IsFileRefused refusal role name g h → IsFileRefused refusal role name f h
refused_later refusal role name f g h goes refused =
    file_whatever refusal role name f h g.reads
    (subst (λ (x : FilesState). IsFileRefused refusal role name x h) (same_but_reads f g goes) refused)

pub class_later : (refusal : Refusal) (name : List ℕ) (f g h : FilesState) → LeavesFiles statuses.Done f g
    → IsClassRefused refusal name g h → IsClassRefused refusal name f h
class_later refusal name f g h goes refused =
    class_whatever refusal name f h g.reads
    (subst (λ (x : FilesState). IsClassRefused refusal name x h) (same_but_reads f g goes) refused)

pub first_class_later : (refusal : Refusal) (names : List (List ℕ)) (f g h : FilesState) → LeavesFiles statuses.Done f g
    → IsFirstClassRefused refusal names g h → IsFirstClassRefused refusal names f h
first_class_later refusal names f g h goes first =
    classes_whatever refusal names f h g.reads
    (subst (λ (x : FilesState). IsFirstClassRefused refusal names x h) (same_but_reads f g goes) first)

pub first_before : (refusal : Refusal) (gates : List Gate) (f g h : FilesState) → LeavesFiles statuses.Done f g
    → IsFirstRefused refusal gates g h → IsFirstRefused refusal gates f h
first_before refusal gates f g h goes first =
    at_gates (λ gate. IsPassed gate f.told) (λ gate. IsRefusedAt refusal gate (record f { reads = g.reads }) h)
    (λ gate. IsRefusedAt refusal gate f h) (λ gate here. gate_whatever refusal gate f h g.reads here) gates
    (subst (λ (x : FilesState). IsFirstRefused refusal gates x h) (same_but_reads f g goes) first)

-- ## Several gates

-- what is refused at some gates is refused at these and more
pub refused_of_more : (refusal : Refusal) (gates more : List Gate) (f f' : FilesState)
    → IsFirstRefused refusal gates f f' → IsFirstRefused refusal (gates ++ more) f f'
refused_of_more refusal [] more f f' refused = absurd refused
refused_of_more refusal (gate ∷ gates) more f f' (inl refused) = inl refused
refused_of_more refusal (gate ∷ gates) more f f' (inr later) =
    inr (later.0, refused_of_more refusal gates more f f' later.1)

-- behind gates that are passed, what is refused is refused first
pub refused_behind : (refusal : Refusal) (gates more : List Gate) (f f' : FilesState) → AllPassed gates f.told
    → IsFirstRefused refusal more f f' → IsFirstRefused refusal (gates ++ more) f f'
refused_behind refusal [] more f f' passed refused = refused
refused_behind refusal (gate ∷ gates) more f f' passed refused =
    inr (passed.0, refused_behind refusal gates more f f' passed.1 refused)

-- the report that a file holds isn't taken, behind the source and the trace of two files that are passed
pub report_refused : (refusal : Refusal) (s t r : List ℕ) (f g h : FilesState) (m : Tree) (packets : List Packet)
    → IsAuditInput f.told s t m packets → LeavesFiles statuses.Done f g
    → IsFileRefused refusal (true_report m packets) r g h → IsFirstRefused refusal (gates_of (Audited s t r)) f h
report_refused refusal s t r f g h m packets found goes refused =
    let there = refused_later refusal (true_report m packets) r f g h goes refused in
    inr (
      passed source _ _ found.input.source (λ text h. (m, h.source)),
      inr (passed trace _ _ found.input.trace (λ text h. (packets, h)), inl (m, packets, found, there)),
    )
