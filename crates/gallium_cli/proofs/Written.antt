-- What a text that was written leads to, what a call that came to none, and which faults each counts.
use Rattle.std.proofs.Common.{◌≡◌, ◌⊎◌, ◌≤◌, ◌+◌, ◌++◌, ℕ, Bool, true, false, List, length, Option, Some, Result, Ok, Err, IfErr, inl, inr, refl, sym, ap}
use Rattle.std.proofs.Common.{subst, ◌∙◌, append_assoc, arith}
use Rattle.std.specs.Prelude.{OnOk, codes}
use Rattle.gal_io.specs.Count.{Rose, IsCountedIf, count_after}
use Rattle.gal_io.specs.Files.{FilesState}
use Rattle.gal_io.specs.Sink.{SinkState}
use Rattle.gal_io.specs.Lines.{line_end}
use Rattle.packet_fields.specs.declared.packet.Packet.{Packet}
use Rattle.element_lang.specs.Tree.{Tree}
use Rattle.flat_ir.specs.Program.{Program}
use Rattle.flat_ir.specs.Listing.{listing}
use Rattle.flatten.specs.Flatten.{flat_of}
use Rattle.split_model.specs.declared.split.Part.{Part}
use Rattle.split_model.specs.Bounds.{IsBounded}
use Rattle.split_model.specs.Greatest.{IsGreatestSplit}
use Rattle.split_model.specs.Legal.{IsLegal}
use Rattle.resource_limits.specs.declared.counting.Counts.{Counts}
use Rattle.resource_limits.specs.declared.limits.Limits.{Limits}
use Rattle.resource_limits.specs.Counts.{counts_of}
use Rattle.resource_limits.specs.Kept.{KeepsLimits}
use Rattle.resource_limits.specs.Limits.{AreInRange}
use Rattle.split_validate.specs.SplitText.{split_text}
use Rattle.split_validate.specs.CountsText.{counts_text}
use Rattle.partition.specs.Choice.{IsChosen}
use Rattle.run_text.specs.declared.plan.Plan.{Plan}
use Rattle.switch_ir.specs.Port.{PortState}
use Rattle.replay_state.specs.Program.{manner_of}
use Rattle.replay_contracts.specs.declared.job.ReplayError.{ReplayError}
use Rattle.replay_contracts.specs.declared.job.ReplayError.TheVariants.{PortFault}
use Rattle.replay_contracts.specs.declared.job.Replayed.{Replayed}
use Rattle.replay_contracts.specs.Inputs.{Inputs}
use Rattle.replay_contracts.specs.Replayer.{HasBroken}
use Rattle.gallium_cli.specs.declared.status.Status.TheVariants as statuses
use Rattle.gallium_cli.specs.declared.refusal.Refusal.{Refusal}
use Rattle.gallium_cli.specs.declared.refusal.Refusal.TheVariants.{WriteFault, SwitchFault, NoMemory}
use Rattle.gallium_cli.specs.Call.{work_of}
use Rattle.traffic_generator.specs.Packets.{packets_of as made_packets}
use Rattle.traffic_generator.specs.Summary.{summary_of}
use Rattle.traffic_generator.specs.Translator.{translator_limits, translator_text}
use Rattle.gallium_cli.specs.Words.{Splitting, ServerAlone, Within, Spelled, is_replay, Request, Replay, Lossy, Chain}
use Rattle.gallium_cli.specs.Roles.{Gate, gates_of, split_gates, event_gates, link_gates, split_reads, IsOnlySource}
use Rattle.gallium_cli.specs.Answers.{IsAnswer, IsProgram, IsPlan, IsChoice, IsNoChoice, IsGivenSplit, IsSplitBy, IsReplayed, given, heading_text}
use Rattle.gallium_cli.specs.Answers.{compiled_text, checked_text, IsMadeSplit, IsSummary, made_plan}
use Rattle.gallium_cli.specs.Broken.{IsBroken, IsBrokenOn, IsMadeBroken}
use Rattle.gallium_cli.specs.Loads.{LeavesFiles, raised_by, is_read_fault, is_too_long}
use Rattle.gallium_cli.specs.Puts.{IsPut, IsNotPut}
use Rattle.gallium_cli.specs.Causes.{IsFirstRefused, IsAllRead, IsSwitchKept, HasCause, CountsFaults, HasEnded, ReadsAll, ReadsSome, is_write_fault}
use Rattle.gallium_cli.specs.Causes.{is_switch_fault}
use Rattle.gallium_cli.specs.Lines.{status_of}
use Rattle.gallium_cli.proofs.Files.{first_before, refused_behind, refused_of_more, split_passed}
use Rattle.lemmas.proofs.Numbers.{same_within}
use Rattle.std.specs.Bool.{OnFalse}
use Rattle.gallium_cli.specs.declared.status.Status.{Status}
use Rattle.gallium_cli.proofs.Blamed.{no_gate}

-- ## Files

on_false : (b : Bool) (P Q : Type 0) → (P → Q) → OnFalse b P → OnFalse b Q
on_false true P Q follows h = tt
on_false false P Q follows h = follows h

-- reads behind others of which none failed
pub goes_further : (status : Status) (f g h : FilesState) → LeavesFiles statuses.Done f g → LeavesFiles status g h
    → LeavesFiles status f h
goes_further status f g h one two = record {
  told = λ name. two.told name ∙ one.told name;
  faults = two.faults ∙ ap (count_after (is_read_fault status)) one.faults;
  fault_name =
      on_false (is_read_fault status) (h.fault_name ≡ g.fault_name) (h.fault_name ≡ f.fault_name)
      (λ same. same ∙ one.fault_name) two.fault_name;
  overlong = two.overlong ∙ ap (count_after (is_too_long status)) one.overlong;
  overlong_name =
      on_false (is_too_long status) (h.overlong_name ≡ g.overlong_name) (h.overlong_name ≡ f.overlong_name)
      (λ same. same ∙ one.overlong_name) two.overlong_name;
}

-- the status blames no read
abbrev pub IsNoFileFault : Status → Type 0
IsNoFileFault status = (is_read_fault status ≡ false) × (is_too_long status ≡ false)

-- so reads of which none failed may end with it
pub goes_still : (status : Status) (f g : FilesState) → IsNoFileFault status → LeavesFiles statuses.Done f g
    → LeavesFiles status f g
goes_still status f g none goes = record {
  told = goes.told;
  faults = subst (λ b. IsCountedIf b f.faults g.faults) (sym none.0) goes.faults;
  fault_name = subst (λ b. OnFalse b (g.fault_name ≡ f.fault_name)) (sym none.0) goes.fault_name;
  overlong = subst (λ b. IsCountedIf b f.overlong g.overlong) (sym none.1) goes.overlong;
  overlong_name = subst (λ b. OnFalse b (g.overlong_name ≡ f.overlong_name)) (sym none.1) goes.overlong_name;
}

-- ## Gates

gates_no_write : (refusal : Refusal) (gates : List Gate) (f f' : FilesState) → IsFirstRefused refusal gates f f'
    → is_write_fault (status_of refusal) ≡ false
gates_no_write WriteFault gates f f' first = absurd (no_gate WriteFault gates f f' tt first)
gates_no_write _ gates f f' first = refl

gates_no_switch : (refusal : Refusal) (gates : List Gate) (f f' : FilesState) → IsFirstRefused refusal gates f f'
    → is_switch_fault (status_of refusal) ≡ false
gates_no_switch SwitchFault gates f f' first = absurd (no_gate SwitchFault gates f f' tt first)
gates_no_switch _ gates f f' first = refl

-- a request that isn't let through a gate
pub gate_counts : (refusal : Refusal) (gates : List Gate) (g f f' : FilesState) (p : PortState) (o : SinkState)
    → IsFirstRefused refusal gates g f' → LeavesFiles (status_of refusal) f f'
    → CountsFaults (status_of refusal) (work_of f f' p p o o)
gate_counts refusal gates g f f' p o first goes = record {
  files = goes;
  out = subst (λ b. IsCountedIf b o.faults o.faults) (sym (gates_no_write refusal gates g f' first)) refl;
  switch = subst (λ b. IsCountedIf b p.faults p.faults) (sym (gates_no_switch refusal gates g f' first)) refl;
}

-- no file was read
pub unread : (f : FilesState) → LeavesFiles statuses.Done f f
unread f = record { told = λ name. refl; faults = refl; fault_name = refl; overlong = refl; overlong_name = refl }

-- a file that was read once was read at most once
pub all_some : (request : Request) (f f' : FilesState) → ReadsAll request f f' → ReadsSome request f f'
all_some (Chain w) f f' (names, are, read) = (names, inr are, same_within _ _ read)
all_some _ f f' read = same_within _ _ read

-- ## How a request ends that came to no answer

-- a switch that isn't called is kept
switch_kept : (replays : Bool) (p : PortState) → IsSwitchKept replays p p
switch_kept true p = refl
switch_kept false p = refl

-- it isn't let through a gate
pub gate_cause : (refusal : Refusal) (request : Request) (f f' : FilesState) (p : PortState) (o : SinkState)
    → IsFirstRefused refusal (gates_of request) f f' → ReadsSome request f f'
    → HasCause refusal (Some request) (work_of f f' p p o o)
gate_cause refusal request f f' p o first few =
    (inl (first, record { out = refl; port = refl }), few, switch_kept (is_replay request) p)

pub gate_ended : (refusal : Refusal) (request : Request) (f f' : FilesState) (p : PortState) (o : SinkState)
    → IsFirstRefused refusal (gates_of request) f f' → ReadsSome request f f' → LeavesFiles (status_of refusal) f f'
    → HasCause refusal (Some request) (work_of f f' p p o o) × CountsFaults (status_of refusal) (work_of f f' p p o o)
gate_ended refusal request f f' p o first few goes =
    (gate_cause refusal request f f' p o first few, gate_counts refusal (gates_of request) f f f' p o first goes)

-- it is a replay that came to no report: no memory was found, or the switch failed
pub replay_ended : (refusal : Refusal) (request : Request) (f f' : FilesState) (p p' : PortState) (o : SinkState)
    → ((refusal ≡ NoMemory) × (p'.faults ≡ p.faults)) ⊎ ((refusal ≡ SwitchFault) × Rose p.faults p'.faults)
    → is_replay request ≡ true → IsAllRead request (work_of f f' p p' o o)
    → (refusal ≡ SwitchFault → IsBroken request f.told p p') → IsSwitchKept (is_replay request) p p'
    → LeavesFiles statuses.Done f f'
    → HasCause refusal (Some request) (work_of f f' p p' o o) × CountsFaults (status_of refusal) (work_of f f' p p' o o)
replay_ended refusal request f f' p p' o (inl (is, same)) replays all broken kept goes =
    subst (λ (x : Refusal). HasCause x (Some request) (work_of f f' p p' o o)
    × CountsFaults (status_of x) (work_of f f' p p' o o)) (sym is) (
      (inr (inr refl), all_some request f f' all.reads, kept),
      record { files = goes_still statuses.NoMemory f f' (refl, refl) goes; out = refl; switch = same },
    )
replay_ended refusal request f f' p p' o (inr (is, rose)) replays all broken kept goes =
    subst (λ (x : Refusal). HasCause x (Some request) (work_of f f' p p' o o)
    × CountsFaults (status_of x) (work_of f f' p p' o o)) (sym is) (
      (
        inr (inl (record { replays = replays; rose = rose; all = all; broken = broken is }, refl)),
        all_some request f f' all.reads,
        kept,
      ),
      record { files = goes_still statuses.SwitchFault f f' (refl, refl) goes; out = refl; switch = rose },
    )

-- what a switch that failed is left with, by the flat program of a middlebox
pub broken_on : (m : Tree) (f : Program) (split : List Part) (writeback : ℕ) (packets : List Packet) (fine : Bool)
    (e : ReplayError) (p p' : PortState) → f ≡ flat_of m → e ≡ PortFault
    → (let x : Inputs =
    record { program = f; split = split; writeback = writeback; packets = packets; manner = manner_of fine } in
    HasBroken x e p p' → IsBrokenOn (given m split writeback packets fine) p p')
broken_on m f split writeback packets fine e p p' is fault broken =
    let at : Program → Inputs =
    λ g. record { program = g; split = split; writeback = writeback; packets = packets; manner = manner_of fine } in
    subst (λ (g : Program). HasBroken (at g) PortFault p p') is
    (subst (λ (end : ReplayError). HasBroken (at f) end p p') fault broken)

-- ## How one ends whose answer is put on out

pub put_ended : {A : Type 0} (result : Result A Refusal) (request : Request) (text : List ℕ) (f f' : FilesState)
    (p p' : PortState) (o o' : SinkState) → IsAnswer text request f.told p p' → ReadsAll request f f'
    → LeavesFiles statuses.Done f f' → IsSwitchKept (is_replay request) p p' → p'.faults ≡ p.faults
    → OnOk result (IsPut text o o') → IfErr result (λ refusal. IsNotPut refusal text o o')
    → HasEnded result (Some request) (work_of f f' p p' o o')
put_ended (Ok x) request text f f' p p' o o' answer read goes kept same put unput =
    ((text, answer, put.0, read, kept), record { files = goes; out = put.1; switch = same })
put_ended (Err WriteFault) request text f f' p p' o o' answer read goes kept same put (rose, n, taken) = (
  (inr (inr (rose, read, text, answer, n, taken)), all_some request f f' read, kept),
  record { files = goes_still statuses.WriteFault f f' (refl, refl) goes; out = rose; switch = same },
)
put_ended (Err NoMemory) request text f f' p p' o o' answer read goes kept same put is = (
  (inr (inr is), all_some request f f' read, kept),
  record {
    files = goes_still statuses.NoMemory f f' (refl, refl) goes;
    out = ap (λ (s : SinkState). s.faults) is;
    switch = same;
  },
)
put_ended (Err _) request text f f' p p' o o' answer read goes kept same put unput = absurd unput

-- ## Splits

-- the split of a flat program that leaves all to the server, and the chosen one, are those of the middlebox
pub served_split : (told : List ℕ → Option (List ℕ)) (s : List ℕ) (m : Tree) (q : Program) (split : List Part)
    → IsProgram told s m → q ≡ flat_of m → IsGreatestSplit q 0 false split → IsLegal q split
    → IsSplitBy ServerAlone told s m split 0
served_split told s m q split found same least legal =
    (found, subst (λ (x : Program). IsNoChoice x split) same record { least = least; legal = legal }, refl)

pub chosen_split : (told : List ℕ → Option (List ℕ)) (s l : List ℕ) (shrink : Bool) (m : Tree) (allowed : Limits)
    (q : Program) (split : List Part) → IsPlan told s l m allowed → q ≡ flat_of m → IsChosen q allowed shrink split
    → IsLegal q split → KeepsLimits q split allowed → IsSplitBy (Within l shrink) told s m split allowed.writeback
chosen_split told s l shrink m allowed q split found same chosen legal keeps = (
  allowed,
  found,
  subst (λ (x : Program). IsChoice x allowed shrink split) same record { chosen = chosen; legal = legal; keeps = keeps },
  refl,
)

pub given_split : (told : List ℕ → Option (List ℕ)) (s l p : List ℕ) (m : Tree) (allowed : Limits) (q : Program)
    (split : List Part) → IsPlan told s l m allowed → q ≡ flat_of m → IsGivenSplit told p q allowed split
    → IsSplitBy (Spelled l p) told s m split allowed.writeback
given_split told s l p m allowed q split found same given =
    (allowed, found, subst (λ (x : Program). IsGivenSplit told p x allowed split) same given, refl)

-- what is printed of the flat program of a middlebox
pub printed : (print : Program → List ℕ) (p q : Program) (text sent : List ℕ) → p ≡ q → text ≡ print p → sent ≡ text
    → sent ≡ print q
printed print p q text sent same told put = put ∙ told ∙ ap print same

-- the parts of a line, one after the other, are the line of a split
pub told_check : (f : Program) (split : List Part) (writeback : ℕ) (counts : Counts) (words sent head some all : List ℕ)
    → counts ≡ counts_of f split writeback → words ≡ counts_text counts → sent ≡ words → head ≡ codes "ok "
    → some ≡ head ++ sent → all ≡ some ++ line_end → all ≡ checked_text f split writeback
told_check f split writeback counts words sent head some all counted worded same headed one two =
    two ∙ ap (λ x. x ++ line_end) one ∙ append_assoc head sent line_end
    ∙ ap (λ x. x ++ (sent ++ line_end)) headed
    ∙ ap (λ x. codes "ok " ++ (x ++ line_end)) (same ∙ worded ∙ ap counts_text counted)

-- the parts of a text, one after the other, are the text that tells a split
pub told_split : (f : Program) (split : List Part) (writeback n : ℕ) (counts : Counts)
    (words head list parts some all : List ℕ)
    → counts ≡ counts_of f split writeback → words ≡ counts_text counts → n ≡ length f.code → head ≡ heading_text n words
    → list ≡ listing f → parts ≡ split_text split → some ≡ head ++ list → all ≡ some ++ parts
    → all ≡ compiled_text f split writeback
told_split f split writeback n counts words head list parts some all counted worded number headed listed parted one two =
    let top : head ≡ heading_text (length f.code) (counts_text (counts_of f split writeback)) =
    headed ∙ ap (λ k. heading_text k words) number
    ∙ ap (λ w. heading_text (length f.code) w) (worded ∙ ap counts_text counted) in
    two ∙ ap (λ x. x ++ parts) one ∙ append_assoc head list parts ∙ ap (λ x. x ++ (list ++ parts)) top
    ∙ ap (λ x. heading_text (length f.code) (counts_text (counts_of f split writeback)) ++ (x ++ parts)) listed
    ∙ ap (λ x. heading_text (length f.code) (counts_text (counts_of f split writeback)) ++ (listing f ++ x)) parted

-- ## Replays

-- files that are read after others
pub reads_at_most : (a b x y z : ℕ) → y ≡ raised_by a x → z ≤ raised_by b y → z ≤ raised_by (a + b) x
reads_at_most a b x y z one two = omega arith

pub more_reads : (a b x y : ℕ) → y ≤ raised_by a x → y ≤ raised_by (a + b) x
more_reads a b x y few = omega arith

pub reads_in_all : (a b x y z : ℕ) → y ≡ raised_by a x → z ≡ raised_by b y → z ≡ raised_by (a + b) x
reads_in_all a b x y z one two = omega arith

-- a request that goes through a split and then through these gates, at which it reads two files
pub record GoesBy (request : Request) (s : List ℕ) (by : Splitting) (more : List Gate) : Type 0 where
  pub gates : gates_of request ≡ split_gates s by ++ more
  pub all : (f h : FilesState) → h.reads ≡ raised_by (split_reads s by + 2) f.reads → ReadsAll request f h
  pub some : (f h : FilesState) → h.reads ≤ raised_by (split_reads s by + 2) f.reads → ReadsSome request f h

pub replay_goes : (s t c : List ℕ) (by : Splitting) → GoesBy (Replay s t c by) s by (event_gates t c)
replay_goes s t c ServerAlone = record { gates = refl; all = λ f h read. read; some = λ f h few. few }
replay_goes s t c (Within l shrink) = record { gates = refl; all = λ f h read. read; some = λ f h few. few }
replay_goes s t c (Spelled l p) = record { gates = refl; all = λ f h read. read; some = λ f h few. few }

pub link_goes : (s t c l : List ℕ) → GoesBy (Lossy s t c l) s (Within l false) (link_gates t c)
link_goes s t c l = record { gates = refl; all = λ f h read. read; some = λ f h few. few }

-- all its files
pub all_reads : (request : Request) (s : List ℕ) (by : Splitting) (more : List Gate) (f g h : FilesState)
    → GoesBy request s by more → g.reads ≡ raised_by (split_reads s by) f.reads → h.reads ≡ raised_by 2 g.reads
    → ReadsAll request f h
all_reads request s by more f g h goes one two =
    goes.all f h (reads_in_all (split_reads s by) 2 f.reads g.reads h.reads one two)

-- it isn't let through the split
pub split_ended : (refusal : Refusal) (request : Request) (s : List ℕ) (by : Splitting) (more : List Gate)
    (f g : FilesState) (p : PortState) (o : SinkState) → GoesBy request s by more
    → IsFirstRefused refusal (split_gates s by) f g → g.reads ≤ raised_by (split_reads s by) f.reads
    → LeavesFiles (status_of refusal) f g
    → HasCause refusal (Some request) (work_of f g p p o o) × CountsFaults (status_of refusal) (work_of f g p p o o)
split_ended refusal request s by more f g p o goes first few counts =
    gate_ended refusal request f g p o
    (subst (λ (gates : List Gate). IsFirstRefused refusal gates f g) (sym goes.gates)
    (refused_of_more refusal (split_gates s by) more f g first))
    (goes.some f g (more_reads (split_reads s by) 2 f.reads g.reads few)) counts

-- or through the gates behind it
pub more_ended : (refusal : Refusal) (request : Request) (s : List ℕ) (by : Splitting) (more : List Gate) (m : Tree)
    (split : List Part) (writeback : ℕ) (f g h : FilesState) (p : PortState) (o : SinkState) → GoesBy request s by more
    → IsSplitBy by f.told s m split writeback → LeavesFiles statuses.Done f g → g.reads ≡ raised_by (split_reads s by) f.reads
    → IsFirstRefused refusal more g h → h.reads ≤ raised_by 2 g.reads → LeavesFiles (status_of refusal) g h
    → HasCause refusal (Some request) (work_of f h p p o o) × CountsFaults (status_of refusal) (work_of f h p p o o)
more_ended refusal request s by more m split writeback f g h p o goes found stays one first two counts =
    gate_ended refusal request f h p o
    (subst (λ (gates : List Gate). IsFirstRefused refusal gates f h) (sym goes.gates)
    (refused_behind refusal (split_gates s by) more f h (split_passed by s f.told m split writeback found)
    (first_before refusal more f g h stays first)))
    (goes.some f h (reads_at_most (split_reads s by) 2 f.reads g.reads h.reads one two))
    (goes_further (status_of refusal) f g h stays counts)

-- ## Made work

-- the chosen split of the middlebox that packets are made for
pub made_split : (m : Tree) (allowed : Limits) (q : Program) (split : List Part) (writeback : ℕ)
    → IsOnlySource translator_text m → IsBounded (flat_of m) → q ≡ flat_of m → allowed ≡ translator_limits
    → IsChosen q allowed false split → IsLegal q split → KeepsLimits q split allowed → writeback ≡ allowed.writeback
    → IsMadeSplit m split writeback
made_split m allowed q split writeback source bounded same is chosen legal keeps rows =
    let here : IsChoice q allowed false split = record { chosen = chosen; legal = legal; keeps = keeps } in
    let there : IsChoice (flat_of m) allowed false split = subst (λ (x : Program). IsChoice x allowed false split) same here in
    record {
      source = source;
      bounded = bounded;
      choice = subst (λ (a : Limits). IsChoice (flat_of m) a false split) is there;
      rows = rows ∙ ap (λ (a : Limits). a.writeback) is;
    }

-- the limits of its split are in their ranges
pub limits_in_range : (allowed : Limits) → allowed ≡ translator_limits → AreInRange allowed
limits_in_range allowed is =
    subst (λ (a : Limits). AreInRange a) (sym is) (omega arith, omega arith, omega arith, omega arith, omega arith)

-- the summary of the replay of what was made
pub made_summary : (text : List ℕ) (seed count : ℕ) (m : Tree) (split : List Part) (writeback : ℕ) (packets : List Packet)
    (plan : Plan) (replayed : Replayed) (p p' : PortState) → IsMadeSplit m split writeback
    → packets ≡ made_packets seed count → plan ≡ made_plan count
    → text ≡ summary_of seed count replayed.run replayed.commands
    → IsReplayed m (given m split writeback packets plan.fine) plan replayed p p' → IsSummary text seed count p p'
made_summary text seed count m split writeback packets plan replayed p p' made packets_are plan_is told replay =
    record {
      m = m;
      split = split;
      writeback = writeback;
      replayed = replayed;
      made = made;
      told = told;
      replay =
          subst (λ (made : Plan). IsReplayed m (given m split writeback (made_packets seed count) made.fine) made replayed p p') plan_is
          (subst (λ (ps : List Packet). IsReplayed m (given m split writeback ps plan.fine) plan replayed p p') packets_are replay);
    }

-- where its switch failed
pub made_broken : (seed count : ℕ) (m : Tree) (split : List Part) (writeback : ℕ) (packets : List Packet) (plan : Plan)
    (p p' : PortState) → IsMadeSplit m split writeback → packets ≡ made_packets seed count → plan ≡ made_plan count
    → IsBrokenOn (given m split writeback packets plan.fine) p p' → IsMadeBroken seed count p p'
made_broken seed count m split writeback packets plan p p' made packets_are plan_is broken = record {
  m = m;
  split = split;
  writeback = writeback;
  made = made;
  broken =
      subst (λ (made : Plan). IsBrokenOn (given m split writeback (made_packets seed count) made.fine) p p') plan_is
      (subst (λ (ps : List Packet). IsBrokenOn (given m split writeback ps plan.fine) p p') packets_are broken);
}

-- the text that was put on out is that summary
pub summary_put : (text sent : List ℕ) (seed count : ℕ) (p p' : PortState) → IsSummary text seed count p p'
    → sent ≡ text → IsSummary sent seed count p p'
summary_put text sent seed count p p' summary put =
    subst (λ (x : List ℕ). IsSummary x seed count p p') (sym put) summary
