-- What follows from how a call ends.
use Rattle.std.proofs.Common.{◌≡◌, ◌≢◌, ◌⊎◌, ◌∙◌, ℕ, Bool, true, false, List, [], ◌∷◌, Option, Some, None, sym, subst, ap, inl, inr, arith, refl}
use Rattle.std.specs.Prelude.{is_some, IsSomeAnd}
use Rattle.gal_io.specs.Count.{Rose}
use Rattle.gal_io.specs.Files.{FilesState}
use Rattle.gal_io.specs.Sink.{SinkState}
use Rattle.gal_io.specs.declared.sink.SinkEnd.{SinkEnd}
use Rattle.gal_io.specs.declared.sink.SinkEnd.TheVariants as ends
use Rattle.switch_ir.specs.Port.{PortState}
use Rattle.gallium_cli.specs.declared.status.Status.{Status}
use Rattle.gallium_cli.specs.declared.status.Status.TheVariants as statuses
use Rattle.gallium_cli.specs.declared.refusal.Refusal.{Refusal}
use Rattle.gallium_cli.specs.declared.refusal.Refusal.TheVariants.{Usage, Exceeded, WriteFault, SwitchFault, NoMemory, Report, Audit}
use Rattle.gallium_cli.specs.Call.{Call, Work}
use Rattle.gallium_cli.specs.Lines.{status_of}
use Rattle.gallium_cli.specs.Words.{Request, Compile, Replay, Lossy, Check, Audit as Audited, Chain as Chained, ServerAlone, Within, Spelled, is_replay}
use Rattle.gallium_cli.specs.Words.{request_of}
use Rattle.gallium_cli.specs.Roles.{Role, source, trace, legal_split, true_report, Gate, File, Choice, SplitFile, ReportFile, Composed, IsFirst, IsSpelled}
use Rattle.gallium_cli.specs.Roles.{gates_of}
use Rattle.gallium_cli.specs.Chains.{class_files}
use Rattle.gallium_cli.specs.Loads.{IsFileRefused}
use Rattle.gallium_cli.specs.Causes.{IsFirstRefused, IsSwitchKept, IsSwitchFaulty, IsNotWritten, IsIdle, IsDone, HasCause, IsPassed, IsRefusedAt, CountsFaults}
use Rattle.gallium_cli.specs.Causes.{after_line, EndsFor, Ends}
use Rattle.gallium_cli.specs.Promises.{IsWriteFault, BlamesInput, IsReadOnce, IsUsage, BlamesOne, IsBlamed, IsFailedOnSwitch, CountsOne, MayExceed, IsReplay}
use Rattle.gallium_cli.specs.Promises.{IsReplayReport, Promises, WithStatus, WithCause}
use Rattle.gallium_cli.proofs.Written.{all_some}
use Rattle.gallium_cli.proofs.Blamed.{BlamesIn, IsBlaming, IsOfNoGate, IsReadFault, IsTooLong, blamed_in, fault_blames, long_blames, no_gate}
use Rattle.gallium_cli.proofs.Held.{unspelled}
use Rattle.gallium_cli.proofs.Told.{meet, some_then, at_gates, first_at}
use Rattle.gallium_cli.proofs.Untrue.{same_input}
use Rattle.gallium_cli.proofs.Replayed.{replay_told}
use Rattle.gallium_cli.proofs.Serial.{serial_done}
use Rattle.gallium_cli.proofs.Exact.{shut_ends, open_ends}
use Rattle.gallium_cli.proofs.Compiled.{compiled_ends}

-- ## A refusal isn't done

abbrev IsNotDone : Status → Type 0
IsNotDone statuses.Done = ⊥
IsNotDone _ = Unit {0}

told_not_done : (refusal : Refusal) (end : SinkEnd) → IsNotDone (after_line refusal end)
told_not_done Usage ends.Done = tt
told_not_done _ ends.Done = tt
told_not_done refusal ends.Failed = tt
told_not_done refusal ends.NoMemory = tt

done_ends : (request : Option Request) (status : Status) (call : Call) → EndsFor request status call
    → status ≡ statuses.Done → IsDone request call.work × (call.err_after ≡ call.err)
done_ends request status call (inl done) is = (done.1, done.3)
done_ends request status call (inr (refusal, cause, counts, (end, told, written))) is =
    absurd (subst IsNotDone (sym told ∙ is) (told_not_done refusal end))

-- ## Words, a file or a limit

-- the status for which they are to blame is that of the refusal whose line was written
told_of : (refusal : Refusal) (end : SinkEnd) (status : Status) → status ≡ after_line refusal end → BlamesInput status
    → status_of refusal ≡ status
told_of refusal ends.Done status is input = sym is
told_of refusal ends.Failed status is input = absurd (subst BlamesInput is input)
told_of refusal ends.NoMemory status is input = absurd (subst BlamesInput is input)

-- neither out nor the switch failed then
input_alone : (refusal : Refusal) (request : Request) (work : Work) → BlamesInput (status_of refusal)
    → (IsSwitchFaulty refusal request work × (work.out_after ≡ work.out)) ⊎ IsNotWritten refusal request work → ⊥
input_alone WriteFault request work input why = input
input_alone SwitchFault request work input why = input
input_alone NoMemory request work input why = input
input_alone _ request work input (inl faulty) = faulty.0
input_alone _ request work input (inr unput) = unput

-- a call that is refused for its words, or isn't let through a gate
abbrev IsShutFor : Option Request → Refusal → Work → Type 0
IsShutFor None refusal work = refusal ≡ Usage
IsShutFor (Some request) refusal work = IsFirstRefused refusal (gates_of request) work.files work.files_after

-- such a call left the rest as it was
record IsShutOut (request : Option Request) (status : Status) (work : Work) : Type 0 where
  refusal : Refusal
  is : status_of refusal ≡ status
  why : IsShutFor request refusal work
  idle : IsIdle work

shut_out : (request : Option Request) (status : Status) (call : Call) → EndsFor request status call → BlamesInput status
    → IsShutOut request status call.work
shut_out request status call (inl done) input = absurd (subst BlamesInput done.0 input)
shut_out None status call (inr (refusal, cause, counts, (end, is, written))) input =
    record { refusal = refusal; is = told_of refusal end status is input; why = cause.0; idle = cause.2 }
shut_out (Some request) status call (inr (refusal, (inl first, few, aside), counts, (end, is, written))) input =
    record { refusal = refusal; is = told_of refusal end status is input; why = first.0; idle = first.1 }
shut_out (Some request) status call (inr (refusal, (inr other, few, aside), counts, (end, is, written))) input =
    absurd (input_alone refusal request call.work (subst BlamesInput (sym (told_of refusal end status is input)) input) other)

-- words with no form end in Usage, and others never do
words_out : (status : Status) (call : Call) → EndsFor None status call → BlamesInput status → status ≡ statuses.Usage
words_out status call end input = let out = shut_out None status call end input in sym out.is ∙ ap status_of out.why

told_usage : (refusal : Refusal) (end : SinkEnd) (status : Status)
    → refusal ≡ Usage → status ≡ after_line refusal end → (status ≡ statuses.Usage) ⊎ IsWriteFault status
told_usage refusal ends.Done status usage is = inl (is ∙ ap status_of usage)
told_usage refusal ends.Failed status usage is = inr (subst IsWriteFault (sym is) tt)
told_usage refusal ends.NoMemory status usage is = inr (subst IsWriteFault (sym is) tt)

usage_ends : (request : Option Request) (status : Status) (call : Call) → EndsFor request status call → IsUsage request status
usage_ends None status call (inl done) = absurd done.1
usage_ends None status call (inr (refusal, cause, counts, (end, is, written))) = told_usage refusal end status cause.0 is
usage_ends (Some request) status call end = λ usage.
    let out = shut_out (Some request) status call end (subst BlamesInput (sym usage) tt) in
    no_gate out.refusal (gates_of request) call.work.files call.work.files_after
    (subst IsOfNoGate (sym (out.is ∙ usage)) tt) out.why

-- ## Which count rose

blames_one : (told : List ℕ → Option (List ℕ)) (request : Request) (blamed : Option (List ℕ))
    → BlamesIn told (gates_of request) blamed → BlamesOne told request blamed
blames_one told (Replay s t c ServerAlone) blamed h = h
blames_one told (Replay s t c (Within l shrink)) blamed h = h
blames_one told (Replay s t c (Spelled l p)) blamed h = h
blames_one told (Chained w) blamed (inl is) = (w ∷ [], inl refl, inl is)
blames_one told (Chained w) blamed (inr (inl (chain, wired, one))) =
    (w ∷ class_files chain.elements, inr (chain, wired, refl), inr one)
blames_one told (Chained w) blamed (inr (inr never)) = absurd never
blames_one told _ blamed h = h

-- where a status comes of a file alone, and each refusal with it blames that file
blamed_ends : (status : Status) (count : FilesState → ℕ) (blamed : FilesState → Option (List ℕ)) → BlamesInput status
    → status ≢ statuses.Usage
    → ((refusal : Refusal) (f f' : FilesState) → status_of refusal ≡ status
    → IsBlaming refusal (blamed f') f f' (Rose (count f) (count f')))
    → (request : Option Request) (call : Call) → EndsFor request status call
    → IsBlamed call.work.files.told request (count call.work.files) (count call.work.files_after) (blamed call.work.files_after)
blamed_ends status count blamed input other blames None call end = absurd (other (words_out status call end input))
blamed_ends status count blamed input other blames (Some request) call end =
    let out = shut_out (Some request) status call end input in
    let f = call.work.files in
    let f' = call.work.files_after in
    let rose =
    blamed_in out.refusal (blamed f') f f' (Rose (count f) (count f')) (blames out.refusal f f' out.is) (gates_of request) out.why in
    (rose.0, blames_one f.told request _ rose.1)

-- ## A limit that is exceeded

abbrev IsExceededStatus : Status → Type 0
IsExceededStatus statuses.Exceeded = Unit {0}
IsExceededStatus _ = ⊥

-- the gates at which a limit may be exceeded
abbrev MayExceedAt : Gate → Type 0
MayExceedAt (File name (legal_split f allowed)) = Unit {0}
MayExceedAt (Choice s l false) = Unit {0}
MayExceedAt (SplitFile s l p) = Unit {0}
MayExceedAt _ = ⊥

exceeded_at : (refusal : Refusal) (gate : Gate) (f f' : FilesState) → IsExceededStatus (status_of refusal)
    → IsRefusedAt refusal gate f f' → MayExceedAt gate
exceeded_at (Exceeded excess) (File name (legal_split g allowed)) f f' is refused = tt
exceeded_at (Exceeded excess) (File name _) f f' is refused = refused.0
exceeded_at (Exceeded excess) (Choice s l true) f f' is (m, allowed, found, (over, never, told)) = never
exceeded_at (Exceeded excess) (Choice s l false) f f' is refused = tt
exceeded_at (Exceeded excess) (SplitFile s l p) f f' is refused = tt
exceeded_at (Exceeded excess) (ReportFile s t r) f f' is (m, packets, found, refused) = refused.0
exceeded_at (Exceeded excess) (Composed w) f f' is (chain, wired, inl first) =
    first_at _ _ ⊥ (λ name never. never) (class_files chain.elements) first
exceeded_at (Exceeded excess) (Composed w) f f' is (chain, wired, inr (ms, are, never)) = never
exceeded_at _ gate f f' is refused = absurd is

may_exceed : (request : Request) (told : List ℕ → Option (List ℕ))
    → IsFirst (λ gate. IsPassed gate told) MayExceedAt (gates_of request) → MayExceed (Some request)
may_exceed (Compile s l false) told first = tt
may_exceed (Replay s t c (Within l false)) told first = tt
may_exceed (Replay s t c (Spelled l p)) told first = tt
may_exceed (Replay s t c _) told first = grind arith
may_exceed (Lossy s t c l) told first = tt
may_exceed (Check s l p) told first = tt
may_exceed _ told first = grind arith

exceeded_ends : (request : Option Request) (call : Call) → EndsFor request statuses.Exceeded call → MayExceed request
exceeded_ends None call end = let never : statuses.Exceeded ≡ statuses.Usage = words_out statuses.Exceeded call end tt in cc
exceeded_ends (Some request) call end =
    let out = shut_out (Some request) statuses.Exceeded call end tt in
    let f = call.work.files in
    let f' = call.work.files_after in
    may_exceed request f.told
    (at_gates (λ gate. IsPassed gate f.told) (λ gate. IsRefusedAt out.refusal gate f f') MayExceedAt
    (λ gate here. exceeded_at out.refusal gate f f' (subst IsExceededStatus (sym out.is) tt) here) (gates_of request) out.why)

-- ## What is counted

-- a call counts just the fault that its status names; or one at most, and its line wasn't written
abbrev HasCounted : Status → Call → Type 0
HasCounted status call =
    (CountsFaults status call.work × (call.err_after.faults ≡ call.err.faults))
    ⊎ (CountsOne call.work × (((status ≡ statuses.WriteFault) × Rose call.err.faults call.err_after.faults)
    ⊎ ((status ≡ statuses.NoMemory) × (call.err_after.faults ≡ call.err.faults))))

has_counted : (request : Option Request) (status : Status) (call : Call) → EndsFor request status call → HasCounted status call
has_counted request status call (inl (is, done, counts, silent)) =
    inl (subst (λ s. CountsFaults s call.work) (sym is) counts, ap (λ (e : SinkState). e.faults) silent)
has_counted request status call (inr (refusal, cause, counts, (ends.Done, is, written))) =
    inl (subst (λ s. CountsFaults s call.work) (sym is) counts, written.faults)
has_counted request status call (inr (refusal, cause, counts, (ends.Failed, is, written))) =
    inr ((status_of refusal, counts), inl (is, written.faults))
has_counted request status call (inr (refusal, cause, counts, (ends.NoMemory, is, written))) =
    inr ((status_of refusal, counts), inr (is, written.faults))

counted_ends : (status : Status) (call : Call) → HasCounted status call → (IsWriteFault status → ⊥)
    → CountsFaults status call.work × (call.err_after.faults ≡ call.err.faults)
counted_ends status call (inl own) other = own
counted_ends status call (inr (one, inl failed)) other = absurd (other (subst IsWriteFault (sym failed.0) tt))
counted_ends status call (inr (one, inr none)) other = absurd (other (subst IsWriteFault (sym none.0) tt))

write_fault_ends : (call : Call) → HasCounted statuses.WriteFault call
    → (CountsFaults statuses.WriteFault call.work × (call.err_after.faults ≡ call.err.faults))
    ⊎ (CountsOne call.work × Rose call.err.faults call.err_after.faults)
write_fault_ends call (inl own) = inl own
write_fault_ends call (inr (one, inl failed)) = inr (one, failed.1)
write_fault_ends call (inr (one, inr none)) = let never : statuses.WriteFault ≡ statuses.NoMemory = none.0 in cc

no_memory_ends : (call : Call) → HasCounted statuses.NoMemory call
    → CountsOne call.work × (call.err_after.faults ≡ call.err.faults)
no_memory_ends call (inl own) = ((statuses.NoMemory, own.0), own.1)
no_memory_ends call (inr (one, inl failed)) = let never : statuses.NoMemory ≡ statuses.WriteFault = failed.0 in cc
no_memory_ends call (inr (one, inr none)) = (one, none.1)

abbrev IsSwitchStatus : Status → Type 0
IsSwitchStatus statuses.SwitchFault = Unit {0}
IsSwitchStatus _ = ⊥

switch_rose : (refusal : Refusal) (request : Option Request) (work : Work)
    → IsSwitchStatus (status_of refusal) → HasCause refusal request work → IsFailedOnSwitch request work
switch_rose SwitchFault None work is cause = let usage : SwitchFault ≡ Usage = cause.0 in cc
switch_rose SwitchFault (Some request) work is (inl first, few, aside) =
    absurd (no_gate SwitchFault (gates_of request) work.files work.files_after tt first.0)
switch_rose SwitchFault (Some request) work is (inr (inl faulty), few, aside) = faulty.0
switch_rose SwitchFault (Some request) work is (inr (inr unput), few, aside) = absurd unput
switch_rose _ request work is cause = absurd is

switch_fault_ends : (request : Option Request) (status : Status) (call : Call)
    → EndsFor request status call → IsSwitchStatus status → IsFailedOnSwitch request call.work
switch_fault_ends request status call (inl done) fault = absurd (subst IsSwitchStatus done.0 fault)
switch_fault_ends request status call (inr (refusal, cause, counts, (ends.Done, is, written))) fault =
    switch_rose refusal request call.work (subst IsSwitchStatus is fault) cause
switch_fault_ends request status call (inr (refusal, cause, counts, (ends.Failed, is, written))) fault =
    absurd (subst IsSwitchStatus is fault)
switch_fault_ends request status call (inr (refusal, cause, counts, (ends.NoMemory, is, written))) fault =
    absurd (subst IsSwitchStatus is fault)

-- ## Who calls the switch, and how often files are read

abbrev calls_switch : Option Request → Bool
calls_switch None = false
calls_switch (Some request) = is_replay request

switch_kept : (request : Option Request) (status : Status) (call : Call) → EndsFor request status call
    → IsSwitchKept (calls_switch request) call.work.port call.work.port_after
switch_kept None status call (inl done) = absurd done.1
switch_kept None status call (inr (refusal, cause, counts, told)) = cause.2.port
switch_kept (Some request) status call (inl (is, (text, answer, taken, read, kept), counts, silent)) = kept
switch_kept (Some request) status call (inr (refusal, (why, few, kept), counts, told)) = kept

kept_aside : (replays : Bool) (p p' : PortState) → (replays ≡ true → ⊥) → IsSwitchKept replays p p' → p' ≡ p
kept_aside true p p' none kept = absurd (none refl)
kept_aside false p p' none kept = kept

aside_ends : (request : Option Request) (status : Status) (call : Call) → EndsFor request status call
    → (IsReplay request → ⊥) → call.work.port_after ≡ call.work.port
aside_ends None status call end none = switch_kept None status call end
aside_ends (Some request) status call end none =
    kept_aside (is_replay request) call.work.port call.work.port_after none (switch_kept (Some request) status call end)

kept_tells : (replays : Bool) (p p' : PortState) → IsSwitchKept replays p p' → is_some p'.told ≡ is_some p.told
kept_tells true p p' kept = kept
kept_tells false p p' kept = ap (λ (x : PortState). is_some x.told) kept

same_files_ends : (request : Option Request) (status : Status) (call : Call) → EndsFor request status call
    → (name : List ℕ) → call.work.files_after.told name ≡ call.work.files.told name
same_files_ends request status call (inl (is, done, counts, silent)) = counts.files.told
same_files_ends request status call (inr (refusal, cause, counts, told)) = counts.files.told

once_ends : (request : Option Request) (status : Status) (call : Call)
    → EndsFor request status call → IsReadOnce request status call
once_ends None status call (inl done) = absurd done.1
once_ends None status call (inr (refusal, cause, counts, told)) = cause.1
once_ends (Some request) status call (inl (is, (text, answer, taken, read, aside), counts, silent)) =
    (all_some request call.work.files call.work.files_after read, λ _. read)
once_ends (Some request) status call (inr (refusal, (why, few, aside), counts, (end, told, written))) =
    (few, λ is. absurd (subst IsNotDone (sym told ∙ is) (told_not_done refusal end)))

-- ## The report of a replay

-- the statuses of a report that isn't taken
abbrev BlamesReport : Status → Type 0
BlamesReport statuses.Report = Unit {0}
BlamesReport statuses.Audit = Unit {0}
BlamesReport _ = ⊥

-- a report that is told and tells a serial run isn't refused for what it holds, and no other file of an audit is
blamed_file : (refusal : Refusal) (role : Role) (name : List ℕ) (f f' : FilesState) → BlamesReport (status_of refusal)
    → IsSomeAnd (f.told name) (IsSpelled role) → IsFileRefused refusal role name f f' → ⊥
blamed_file (Report number) role name f f' is spelled refused =
    let (text, good, held) = meet _ _ (f.told name) spelled refused.1 in unspelled (Report number) role text held.1.0 good
blamed_file (Audit untruth) role name f f' is spelled refused =
    let (text, good, held) = meet _ _ (f.told name) spelled refused.1 in unspelled (Audit untruth) role text held.1.0 good
blamed_file _ role name f f' is spelled refused = is

replay_unrefused : (refusal : Refusal) (s t r : List ℕ) (f f' : FilesState)
    → BlamesReport (status_of refusal) → IsReplayReport f.told s t r
    → IsFirstRefused refusal (gates_of (Audited s t r)) f f' → ⊥
replay_unrefused refusal s t r f f' is replay (inl refused) =
    blamed_file refusal source s f f' is (some_then _ (IsSpelled source) (f.told s) replay.source (λ text h. (replay.m, h))) refused
replay_unrefused refusal s t r f f' is replay (inr (passed, inl refused)) =
    blamed_file refusal trace t f f' is (some_then _ (IsSpelled trace) (f.told t) replay.trace (λ text h. (replay.packets, h))) refused
replay_unrefused refusal s t r f f' is replay (inr (passed, inr (also, inl (m, packets, found, refused)))) =
    let same = same_input f.told s t replay.m m replay.packets packets replay.source replay.trace found.input in
    blamed_file refusal (true_report m packets) r f f' is (replay_told f.told s t r m packets found replay same) refused
replay_unrefused refusal s t r f f' is replay (inr (passed, inr (also, inr (last, never)))) = never

replayed_ends : (s t r : List ℕ) (status : Status) (call : Call) → EndsFor (Some (Audited s t r)) status call → BlamesInput status
    → BlamesReport status → IsReplayReport call.work.files.told s t r → ⊥
replayed_ends s t r status call end input blamed replay =
    let out = shut_out (Some (Audited s t r)) status call end input in
    replay_unrefused out.refusal s t r call.work.files call.work.files_after (subst BlamesReport (sym out.is) blamed) replay out.why

-- all that is promised follows from how a call ends
pub promised : (status : Status) (call : Call) → Ends status call → Promises status call
promised status call end =
    let request = request_of call.words in
    let asked : (some : Request) → request ≡ Some some → EndsFor (Some some) status call =
    λ some is. subst (λ (x : Option Request). EndsFor x status call) is end in
    let ended : (other : Status) → status ≡ other → EndsFor request other call =
    λ other is. subst (λ (s : Status). EndsFor request s call) is end in
    let counts = has_counted request status call end in
    record {
      serial = λ is replay tells. serial_done request call.work replay tells (done_ends request status call end is).0;
      ends = end;
      done = λ is. (done_ends request status call end is).0;
      silent = λ is. (done_ends request status call end is).1;
      untouched = λ input. (shut_out request status call end input).idle.out;
      uncalled = λ input. (shut_out request status call end input).idle.port;
      aside = aside_ends request status call end;
      tells = kept_tells (calls_switch request) call.work.port call.work.port_after (switch_kept request status call end);
      same_files = same_files_ends request status call end;
      once = once_ends request status call end;
      usage = usage_ends request status call end;
      exact = λ some expected is shut. shut_ends (WithStatus expected) some status call (asked some is) shut;
      cause = λ some refusal is shut. shut_ends (WithCause refusal) some status call (asked some is) shut;
      complete = λ some is free. open_ends some status call (asked some is) free;
      exceeded = λ is. exceeded_ends request call (ended statuses.Exceeded is);
      compiled = λ s l p is text. compiled_ends s l p status call (asked (Check s l p) is) text;
      replayed = λ s t r is replay. (
        λ report. replayed_ends s t r status call (asked (Audited s t r) is)
            (subst BlamesInput (sym report) tt) (subst BlamesReport (sym report) tt) replay,
        λ untrue. replayed_ends s t r status call (asked (Audited s t r) is)
            (subst BlamesInput (sym untrue) tt) (subst BlamesReport (sym untrue) tt) replay,
      );
      too_long = λ is. blamed_ends statuses.TooLong (λ f. f.overlong) (λ f. f.overlong_name) tt (λ e. cc)
          (λ refusal f f' is. long_blames refusal f f' (subst IsTooLong (sym is) tt)) request call (ended statuses.TooLong is);
      read_fault = λ is. blamed_ends statuses.ReadFault (λ f. f.faults) (λ f. f.fault_name) tt (λ e. cc)
          (λ refusal f f' is. fault_blames refusal f f' (subst IsReadFault (sym is) tt)) request call (ended statuses.ReadFault is);
      counted = counted_ends status call counts;
      no_memory = λ is. no_memory_ends call (subst (λ (s : Status). HasCounted s call) is counts);
      write_fault = λ is. write_fault_ends call (subst (λ (s : Status). HasCounted s call) is counts);
      switch_fault = λ is. switch_fault_ends request status call end (subst IsSwitchStatus (sym is) tt);
    }
