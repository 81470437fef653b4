-- Which status and which line told files and limits lead to.
use Rattle.std.proofs.Common.{◌≡◌, ◌≢◌, ◌≤◌, ◌⊎◌, ◌∙◌, ℕ, suc, List, [], ◌∷◌, length, Option, Some, IfSome, IsSomeAnd, slice_get, Bool, inl, inr, arith, refl}
use Rattle.std.proofs.Common.{ap, subst, sym}
use Rattle.std.specs.Io.KnownBytes.{append_known}
use Rattle.std.specs.List.{AllByRecursion as Each}
use Rattle.element_lang.specs.Accepted.{IsSource}
use Rattle.element_text.specs.declared.error.TextError.{TextError}
use Rattle.element_chain.specs.declared.chain.Chain.{Chain as ChainTold}
use Rattle.element_chain.specs.declared.chain.Element.{Element}
use Rattle.chain_compose.proofs.Laws.{one_composition_or_one_reason-apart, one_composition_or_one_reason-reason}
use Rattle.chain_text.proofs.Laws.{one_chain_or_one_reason-chain}
use Rattle.chain_compose.specs.Refusals as reasons
use Rattle.chain_compose.specs.declared.error.ComposeError.{ComposeError}
use Rattle.chain_compose.specs.declared.error.ComposeError.TheVariants as composing
use Rattle.gal_io.specs.Files.{FilesState}
use Rattle.gal_io.specs.declared.sink.SinkEnd.{SinkEnd}
use Rattle.gal_io.specs.declared.sink.SinkEnd.TheVariants as ends
use Rattle.element_lang.specs.Tree.{Tree}
use Rattle.flatten.specs.Flatten.{flat_of}
use Rattle.partition.specs.Choice.{IsRefused}
use Rattle.resource_limits.specs.declared.exceeding.Over.{Over}
use Rattle.resource_limits.specs.declared.limits.Limits.{Limits}
use Rattle.gallium_cli.specs.declared.status.Status.{Status}
use Rattle.gallium_cli.specs.declared.status.Status.TheVariants as statuses
use Rattle.gallium_cli.specs.declared.refusal.Refusal.{Refusal}
use Rattle.gallium_cli.specs.declared.refusal.Refusal.TheVariants.{Source, Exceeded, TooLong, ReadFault, WriteFault, SwitchFault, NoMemory, ClassSource}
use Rattle.gallium_cli.specs.declared.refusal.Refusal.TheVariants.{ClassTooLong, ClassReadFault, Uncomposed}
use Rattle.gallium_cli.specs.Call.{Call, Work}
use Rattle.gallium_cli.specs.Lines.{status_of, line_of}
use Rattle.gallium_cli.specs.Words.{Request}
use Rattle.gallium_cli.specs.Roles.{Role, source, legal_split, true_report, Gate, File, Choice, SplitFile, ReportFile, Composed, gates_of, size_of, IsFirst}
use Rattle.gallium_cli.specs.Roles.{IsGood, IsOnlySource}
use Rattle.gallium_cli.specs.Loads.{IsFileRefused, IsSoleCause}
use Rattle.gallium_cli.specs.Chains.{AreClasses, IsClassRefused, IsFirstClassRefused, IsUncomposed, IsWired, class_files, connected, file_of, uncomposed_of}
use Rattle.gallium_cli.specs.Causes.{IsAtFile, IsRefusedAt, IsPassed, AllPassed, IsFirstRefused, IsOverLimit, IsSwitchFaulty, IsNotWritten, HasCause, IsTold}
use Rattle.gallium_cli.specs.Causes.{after_line, EndsFor}
use Rattle.gallium_cli.specs.Promises.{IsEarlyFault, IsFault, IsUnlessEarlyFault, IsUnlessFault, IsBlamedFor, AreToldClasses, IsToldWiring, IsToldPlan}
use Rattle.gallium_cli.specs.Promises.{IsClassCause, IsToldAt, IsOpen, AllOpen, IsShut, IsFirstShut, IsChainShut, Blame, WithStatus, WithCause, IsTextBlamed}
use Rattle.gallium_cli.specs.Promises.{IsClassBlamed, IsLimitBlamed, IsChainBlamed}
use Rattle.gallium_cli.proofs.Choices.{same_role, refused_unchosen, open_over, same_excess}
use Rattle.gallium_cli.proofs.Held.{held_status, long_status, one_cause, unspelled}
use Rattle.gallium_cli.proofs.Told.{meet, some_then, walks}
use Rattle.gallium_cli.proofs.Untrue.{same_report}
use Rattle.gallium_cli.proofs.Classes.{classes_good, each_class_file, same_place}
use Rattle.gallium_cli.proofs.Files.{answer_passed}

-- what is found where a gate is shut so: that, or a fault
abbrev IsFound : Blame → Refusal → Type 0
IsFound (WithStatus status) refusal = IsUnlessEarlyFault status (status_of refusal)
IsFound (WithCause cause) refusal = (cause ≡ refusal) ⊎ IsEarlyFault (status_of refusal)

fault_found : (blame : Blame) (refusal : Refusal) → IsEarlyFault (status_of refusal) → IsFound blame refusal
fault_found (WithStatus status) refusal fault = inr fault
fault_found (WithCause cause) refusal fault = inr fault

-- ## One file

-- a text that is blamed isn't good
text_bad : (blame : Blame) (role : Role) (text : List ℕ) → IsTextBlamed blame role text → IsGood role text → ⊥
text_bad (WithStatus status) role text (inl long) good = let short = good.0 in let above = long.1 in omega arith
text_bad (WithStatus status) role text (inr bad) good = bad.1.1 good.1
text_bad (WithCause cause) role text why good = unspelled cause role text why.1 good.1

bad_unpassed : (blame : Blame) (role : Role) (told : Option (List ℕ)) → IsSomeAnd told (IsTextBlamed blame role)
    → IfSome told (IsGood role) → ⊥
bad_unpassed blame role told bad good = let (text, is, fine) = meet _ _ told bad good in text_bad blame role text is fine

-- what is refused of a good file is a fault
good_refused : (refusal : Refusal) (role : Role) (name : List ℕ) (f f' : FilesState)
    → IsSomeAnd (f.told name) (IsGood role) → IsFileRefused refusal role name f f' → IsEarlyFault (status_of refusal)
good_refused (TooLong blamed) role name f f' good refused =
    let (text, fine, long) = meet _ _ (f.told name) good refused.1.0 in let short = fine.0 in absurd (omega arith)
good_refused (ReadFault blamed) role name f f' good refused = tt
good_refused NoMemory role name f f' good refused = tt
good_refused refusal role name f f' good refused =
    let (text, fine, held) = meet _ _ (f.told name) good refused.1 in absurd (unspelled refusal role text held.1.0 fine.1)

-- what is found of a file that is blamed
file_found : (blame : Blame) (refusal : Refusal) (role : Role) (name : List ℕ) (f f' : FilesState)
    → IsSomeAnd (f.told name) (IsTextBlamed blame role) → IsFileRefused refusal role name f f' → IsFound blame refusal
file_found (WithStatus status) (TooLong blamed) role name f f' bad refused =
    let (text, is, long) = meet _ _ (f.told name) bad refused.1.0 in inl (long_status role status text is long)
file_found (WithCause cause) (TooLong blamed) role name f f' why refused =
    let (text, is, long) = meet _ _ (f.told name) why refused.1.0 in let short = is.0 in absurd (omega arith)
file_found blame (ReadFault blamed) role name f f' bad refused = fault_found blame (ReadFault blamed) tt
file_found blame NoMemory role name f f' bad refused = fault_found blame NoMemory tt
file_found (WithStatus status) refusal role name f f' bad refused =
    let (text, is, held) = meet _ _ (f.told name) bad refused.1 in inl (held_status refusal role status text is held.0 held.1.0)
file_found (WithCause cause) refusal role name f f' why refused =
    let (text, is, held) = meet _ _ (f.told name) why refused.1 in inl (one_cause refusal role cause text held.1 is.1)

-- ## One file of a class

class_bad : (blame : Blame) (name text : List ℕ) → IsClassBlamed blame name text → IsGood source text → ⊥
class_bad (WithStatus status) name text bad good = text_bad (WithStatus status) source text bad good
class_bad (WithCause (ClassSource fault file)) name text why good = text_bad (WithCause (Source fault)) source text why.1 good
class_bad (WithCause _) name text why good = why

class_unpassed : (blame : Blame) (told : List ℕ → Option (List ℕ)) (name : List ℕ) → IsSomeAnd (told name) (IsClassBlamed blame name)
    → IfSome (told name) (IsGood source) → ⊥
class_unpassed blame told name bad good =
    let (text, is, fine) = meet _ _ (told name) bad good in class_bad blame name text is fine

-- what is refused of a good class file is a fault
good_class : (refusal : Refusal) (name : List ℕ) (f f' : FilesState)
    → IsSomeAnd (f.told name) (IsGood source) → IsClassRefused refusal name f f' → IsEarlyFault (status_of refusal)
good_class (ClassSource fault file) name f f' good refused = good_refused (Source fault) source name f f' good refused.1
good_class (ClassTooLong file) name f f' good refused =
    let (text, fine, long) = meet _ _ (f.told name) good refused.1.0 in let short = fine.0 in absurd (omega arith)
good_class (ClassReadFault file) name f f' good refused = tt
good_class NoMemory name f f' good refused = tt
good_class _ name f f' good refused = absurd refused

good_classes : (refusal : Refusal) (names : List (List ℕ)) (f f' : FilesState)
    → Each (λ name. IsSomeAnd (f.told name) (IsGood source)) names → IsFirstClassRefused refusal names f f'
    → IsEarlyFault (status_of refusal)
good_classes refusal [] f f' good refused = absurd refused
good_classes refusal (name ∷ names) f f' good (inl here) = good_class refusal name f f' good.0 here
good_classes refusal (name ∷ names) f f' good (inr later) = good_classes refusal names f f' good.1 later.1

-- what is found of a class file that is blamed
same_class : (text : List ℕ) (cause : Refusal) (name file : List ℕ) (found : TextError) → IsClassCause cause name text
    → file ≡ name → IsSoleCause (Source found) source text → cause ≡ ClassSource found file
same_class text (ClassSource fault other) name file found why is held =
    let faults : fault ≡ found = held.1 fault why.1.1.0 why.1.1.2 in
    let files : other ≡ file = why.0 ∙ sym is in
    ap (λ (x : TextError). ClassSource x other) faults ∙ ap (ClassSource found) files
same_class text _ name file found why is held = absurd why

short_class : (text : List ℕ) (cause : Refusal) (name : List ℕ) → IsClassCause cause name text → length text ≤ size_of source
short_class text (ClassSource fault file) name why = why.1.0
short_class text _ name why = absurd why

class_found : (blame : Blame) (refusal : Refusal) (name : List ℕ) (f f' : FilesState)
    → IsSomeAnd (f.told name) (IsClassBlamed blame name) → IsClassRefused refusal name f f' → IsFound blame refusal
class_found (WithStatus status) (ClassSource fault file) name f f' bad refused =
    file_found (WithStatus status) (Source fault) source name f f' bad refused.1
class_found (WithCause cause) (ClassSource fault file) name f f' why refused =
    let (text, is, held) = meet _ _ (f.told name) why refused.1.1 in
    inl (same_class text cause name file fault is refused.0 held.1)
class_found (WithStatus status) (ClassTooLong file) name f f' bad refused =
    let (text, is, long) = meet _ _ (f.told name) bad refused.1.0 in inl (long_status source status text is long)
class_found (WithCause cause) (ClassTooLong file) name f f' why refused =
    let (text, is, long) = meet _ _ (f.told name) why refused.1.0 in
    let short = short_class text cause name is in
    absurd (omega arith)
class_found blame (ClassReadFault file) name f f' bad refused = fault_found blame (ClassReadFault file) tt
class_found blame NoMemory name f f' bad refused = fault_found blame NoMemory tt
class_found blame _ name f f' bad refused = absurd refused

-- ## One chain

abbrev Tells : Option (List ℕ) → Tree → Type 0
Tells told m = IsSomeAnd told (λ text. (length text ≤ size_of source) × IsSource text m)

abbrev MayTell : Option (List ℕ) → Tree → Type 0
MayTell told m = IfSome told (λ text. (length text ≤ size_of source) × IsOnlySource text m)

one_chain : (told : List ℕ → Option (List ℕ)) (w : List ℕ) (chain found : ChainTold)
    → IsToldWiring told w chain → IsWired told w found → chain ≡ found
one_chain told w chain found asked wired =
    let (text, one, two) = meet _ _ (told w) asked wired in one_chain_or_one_reason-chain text chain found one.1 two.1

-- one list of middleboxes has these elements
one_list : (told : List ℕ → Option (List ℕ)) (es : List Element) (ms ns : List Tree)
    → length ms ≡ length es → length ns ≡ length es
    → ((e : ℕ) (x : Element) (m : Tree) → slice_get es e ≡ Some x → slice_get ms e ≡ Some m → Tells (told (file_of x.class)) m)
    → ((e : ℕ) (x : Element) (m : Tree) → slice_get es e ≡ Some x → slice_get ns e ≡ Some m
    → MayTell (told (file_of x.class)) m) → ms ≡ ns
one_list told [] [] [] one two tells may = refl
one_list told (x ∷ es) (m ∷ ms) (n ∷ ns) one two tells may =
    let (text, is, only) = meet _ _ (told (file_of x.class)) (tells 0 x m refl refl) (may 0 x n refl refl) in
    let first : m ≡ n = only.1.only m is.1 in
    let rest =
    one_list told es ms ns (omega arith) (omega arith) (λ e y k. tells (suc e) y k) (λ e y k. may (suc e) y k) in
    ap (λ (k : Tree). k ∷ ms) first ∙ ap (λ (ks : List Tree). n ∷ ks) rest
one_list told es ms ns one two tells may = absurd (omega arith)

one_classes : (told : List ℕ → Option (List ℕ)) (chain : ChainTold) (ms ns : List Tree)
    → AreToldClasses told chain ms → AreClasses told chain.elements ns → ms ≡ ns
one_classes told chain ms ns asked found = one_list told chain.elements ms ns asked.count found.count asked.each found.each

-- the files of middleboxes that are told are good
told_good : (told : List ℕ → Option (List ℕ)) (chain : ChainTold) (ms : List Tree) → AreToldClasses told chain ms
    → Each (λ name. IsSomeAnd (told name) (IsGood source)) (class_files chain.elements)
told_good told chain ms asked =
    each_class_file (λ name. IsSomeAnd (told name) (IsGood source)) chain.elements
    (λ e x there.
    let m = same_place chain.elements ms e x asked.count there in
    some_then _ (IsGood source) (told (file_of x.class)) (asked.each e x m.0 there m.1) (λ text h. (h.0, (m.0, h.1))))

-- a chain whose file is good isn't made one source
abbrev IsUnmade : Refusal → ChainTold → FilesState → FilesState → Type 0
IsUnmade refusal chain f f' =
    IsFirstClassRefused refusal (class_files chain.elements) f f'
    ⊎ ((ns : List Tree) × AreClasses f.told chain.elements ns × IsUncomposed refusal chain ns)

-- a chain that is composed isn't refused but for want of memory
composed_refused : (refusal : Refusal) (chain : ChainTold) (ms : List Tree)
    → reasons.IsUnrefused (connected chain ms) → IsUncomposed refusal chain ms → IsEarlyFault (status_of refusal)
composed_refused (Uncomposed told) chain ms none (error, real, refused, is) =
    absurd (one_composition_or_one_reason-apart (connected chain ms) error real none refused)
composed_refused NoMemory chain ms none refused = tt
composed_refused _ chain ms none refused = absurd refused

open_chain : (refusal : Refusal) (f f' : FilesState) (chain : ChainTold) (ms : List Tree)
    → AreToldClasses f.told chain ms → reasons.IsUnrefused (connected chain ms) → IsUnmade refusal chain f f'
    → IsEarlyFault (status_of refusal)
open_chain refusal f f' chain ms asked none (inl first) =
    good_classes refusal (class_files chain.elements) f f' (told_good f.told chain ms asked) first
open_chain refusal f f' chain ms asked none (inr (ns, are, why)) =
    let same = one_classes f.told chain ms ns asked are in
    composed_refused refusal chain ns (subst (λ (k : List Tree). reasons.IsUnrefused (connected chain k)) same none) why

-- none of good files is blamed
classes_unshut : (told : List ℕ → Option (List ℕ)) (names : List (List ℕ)) (blame : Blame)
    → Each (λ name. IfSome (told name) (IsGood source)) names
    → IsFirst (λ name. IsSomeAnd (told name) (IsGood source)) (λ name. IsSomeAnd (told name) (IsClassBlamed blame name)) names → ⊥
classes_unshut told [] blame good shut = shut
classes_unshut told (name ∷ names) blame good (inl here) = class_unpassed blame told name here good.0
classes_unshut told (name ∷ names) blame good (inr later) = classes_unshut told names blame good.1 later.1

unshut_chain : (chain : ChainTold) (ms : List Tree) (blame : Blame) (f : FilesState)
    → AreClasses f.told chain.elements ms → reasons.IsUnrefused (connected chain ms) → IsChainShut f.told chain blame → ⊥
unshut_chain chain ms blame f are none (inl first) =
    classes_unshut f.told (class_files chain.elements) blame (classes_good f.told chain.elements ms are) first
unshut_chain chain ms blame f are none (inr (error, (ns, told, real, refused), is)) =
    let same = one_classes f.told chain ns ms told are in
    one_composition_or_one_reason-apart (connected chain ms) error real none
    (subst (λ (k : List Tree). reasons.IsRefused (connected chain k) error) same refused)

composing_found : (blame : Blame) (refusal : Refusal) (chain : ChainTold) (ms : List Tree) (error : ComposeError)
    → error ≢ composing.NoMemory → reasons.IsRefused (connected chain ms) error → IsChainBlamed blame chain.elements error
    → IsUncomposed refusal chain ms → IsFound blame refusal
composing_found (WithStatus status) (Uncomposed told) chain ms error real why is refused = inl (sym is)
composing_found (WithCause cause) (Uncomposed told) chain ms error real why is (found, other, refused, same) =
    let one = one_composition_or_one_reason-reason (connected chain ms) error found real other why refused in
    inl (is ∙ ap (λ x. Uncomposed (uncomposed_of chain.elements x)) one ∙ ap Uncomposed (sym same))
composing_found blame NoMemory chain ms error real why is refused = fault_found blame NoMemory tt
composing_found blame _ chain ms error real why is refused = absurd refused

chain_found : (blame : Blame) (refusal : Refusal) (chain : ChainTold) (f f' : FilesState)
    → IsChainShut f.told chain blame → IsUnmade refusal chain f f' → IsFound blame refusal
chain_found blame refusal chain f f' (inl first) (inl refused) =
    walks (λ name. IsSomeAnd (f.told name) (IsGood source)) (λ name. IsSomeAnd (f.told name) (IsClassBlamed blame name))
    (λ name. IfSome (f.told name) (IsGood source)) (λ name. IsClassRefused refusal name f f') (IsFound blame refusal)
    (λ name here there. class_found blame refusal name f f' here there)
    (λ name here passed. absurd (class_unpassed blame f.told name here passed))
    (λ name free there. fault_found blame refusal (good_class refusal name f f' free there))
    (class_files chain.elements) first refused
chain_found blame refusal chain f f' (inl first) (inr (ns, are, why)) =
    absurd (classes_unshut f.told (class_files chain.elements) blame (classes_good f.told chain.elements ns are) first)
chain_found blame refusal chain f f' (inr (error, (ms, asked, real, why), is)) (inl first) =
    fault_found blame refusal
    (good_classes refusal (class_files chain.elements) f f' (told_good f.told chain ms asked) first)
chain_found blame refusal chain f f' (inr (error, (ms, asked, real, why), is)) (inr (ns, are, refused)) =
    let same = one_classes f.told chain ms ns asked are in
    composing_found blame refusal chain ns error real
    (subst (λ (k : List Tree). reasons.IsRefused (connected chain k) error) same why) is refused

-- ## One gate

-- what both sayings of a file at a gate come to: it has one role
at_file : (told : List ℕ → Option (List ℕ)) (IsSo : Role → List ℕ → Type 0) (IsThere : List ℕ → Role → Type 0) (P : Type 0)
    → ((name : List ℕ) (role : Role) → IsSomeAnd (told name) (IsSo role) → IsThere name role → P)
    → (gate : Gate) → IsToldAt told IsSo gate → IsAtFile told IsThere gate → P
at_file told IsSo IsThere P both (File name role) is there = both name role is there
at_file told IsSo IsThere P both (SplitFile s l p) (m, allowed, asked, is) (m', allowed', found, there) =
    let same = same_role told s l m m' allowed allowed' asked found in
    both p (legal_split (flat_of m') allowed') (subst (λ (role : Role). IsSomeAnd (told p) (IsSo role)) same is) there
at_file told IsSo IsThere P both (ReportFile s t r) (m, packets, asked, is) (m', packets', found, there) =
    let same = same_report told s t m m' packets packets' asked found in
    both r (true_report m' packets') (subst (λ (role : Role). IsSomeAnd (told r) (IsSo role)) same is) there
at_file told IsSo IsThere P both _ is there = absurd is

-- what is refused at an open gate is a fault
open_refused : (refusal : Refusal) (gate : Gate) (f f' : FilesState)
    → IsOpen f.told gate → IsRefusedAt refusal gate f f' → IsEarlyFault (status_of refusal)
open_refused refusal (Choice s l shrink) f f' (m, allowed, asked, none) refused =
    open_over refusal f.told s l shrink m allowed asked none refused
open_refused refusal (Composed w) f f' (chain, ms, asked, told, none) (found, wired, why) =
    let same = one_chain f.told w chain found asked wired in
    open_chain refusal f f' found ms (subst (λ (c : ChainTold). AreToldClasses f.told c ms) same told)
    (subst (λ (c : ChainTold). reasons.IsUnrefused (connected c ms)) same none) why
open_refused refusal gate f f' free refused =
    at_file f.told IsGood (λ name role. IsFileRefused refusal role name f f') (IsEarlyFault (status_of refusal))
    (λ name role good here. good_refused refusal role name f f' good here) gate free refused

-- a gate that is shut isn't passed
shut_unpassed : (gate : Gate) (blame : Blame) (f : FilesState) → IsShut f.told gate blame → IsPassed gate f.told → ⊥
shut_unpassed (Choice s l shrink) blame f (m, allowed, over, asked, refused, is) (m', allowed', split, found, chosen) =
    refused_unchosen f.told s l shrink m m' allowed allowed' split over asked refused found chosen
shut_unpassed (Composed w) blame f (chain, asked, shut) (found, ms, wired, are, none) =
    let same = one_chain f.told w chain found asked wired in
    unshut_chain found ms blame f are none (subst (λ (c : ChainTold). IsChainShut f.told c blame) same shut)
shut_unpassed gate blame f shut passed =
    at_file f.told (IsTextBlamed blame) (λ name role. IfSome (f.told name) (IsGood role)) ⊥
    (λ name role bad good. bad_unpassed blame role (f.told name) bad good) gate shut passed

-- what is found where a limit is exceeded
over_found : (blame : Blame) (refusal : Refusal) (told : List ℕ → Option (List ℕ)) (s l : List ℕ) (shrink : Bool) (m : Tree)
    (allowed : Limits) (over : Over) → IsToldPlan told s l m allowed → IsRefused (flat_of m) allowed shrink over
    → IsLimitBlamed blame m over → IsOverLimit refusal s l shrink told → IsFound blame refusal
over_found (WithStatus status) (Exceeded excess) told s l shrink m allowed over asked refused is found = inl (sym is)
over_found (WithCause cause) (Exceeded excess) told s l shrink m allowed over asked refused is found =
    inl (is ∙ same_excess excess told s l shrink m allowed over asked refused found)
over_found blame NoMemory told s l shrink m allowed over asked refused is found = fault_found blame NoMemory tt
over_found blame _ told s l shrink m allowed over asked refused is (m', allowed', found, never) = absurd never

-- what is found at a shut gate
shut_found : (blame : Blame) (refusal : Refusal) (gate : Gate) (f f' : FilesState) → IsShut f.told gate blame
    → IsRefusedAt refusal gate f f' → IsFound blame refusal
shut_found blame refusal (Choice s l shrink) f f' (m, allowed, over, asked, exceeded, is) refused =
    over_found blame refusal f.told s l shrink m allowed over asked exceeded is refused
shut_found blame refusal (Composed w) f f' (chain, asked, shut) (found, wired, why) =
    let same = one_chain f.told w chain found asked wired in
    chain_found blame refusal found f f' (subst (λ (c : ChainTold). IsChainShut f.told c blame) same shut) why
shut_found blame refusal gate f f' shut refused =
    at_file f.told (IsTextBlamed blame) (λ name role. IsFileRefused refusal role name f f') (IsFound blame refusal)
    (λ name role bad here. file_found blame refusal role name f f' bad here) gate shut refused

-- ## All gates

gates_found : (blame : Blame) (refusal : Refusal) (gates : List Gate) (f f' : FilesState)
    → IsFirstShut f.told gates blame → IsFirstRefused refusal gates f f' → IsFound blame refusal
gates_found blame refusal gates f f' shut refused =
    walks (IsOpen f.told) (λ gate. IsShut f.told gate blame) (λ gate. IsPassed gate f.told)
    (λ gate. IsRefusedAt refusal gate f f') (IsFound blame refusal)
    (λ gate here there. shut_found blame refusal gate f f' here there)
    (λ gate here passed. absurd (shut_unpassed gate blame f here passed))
    (λ gate free there. fault_found blame refusal (open_refused refusal gate f f' free there)) gates shut refused

-- where all gates are passed, none is shut
passed_unshut : (gates : List Gate) (blame : Blame) (f : FilesState) → AllPassed gates f.told → IsFirstShut f.told gates blame → ⊥
passed_unshut [] blame f passed shut = shut
passed_unshut (gate ∷ gates) blame f passed (inl here) = shut_unpassed gate blame f here passed.0
passed_unshut (gate ∷ gates) blame f passed (inr shut) = passed_unshut gates blame f passed.1 shut.1

-- what is refused of open gates is a fault
open_gates : (refusal : Refusal) (gates : List Gate) (f f' : FilesState)
    → AllOpen f.told gates → IsFirstRefused refusal gates f f' → IsEarlyFault (status_of refusal)
open_gates refusal [] f f' free refused = absurd refused
open_gates refusal (gate ∷ gates) f f' free (inl refused) = open_refused refusal gate f f' free.0 refused
open_gates refusal (gate ∷ gates) f f' free (inr later) = open_gates refusal gates f f' free.1 later.1

-- ## How a call ends

pub early_is_fault : (status : Status) → IsEarlyFault status → IsFault status
early_is_fault statuses.ReadFault h = tt
early_is_fault statuses.WriteFault h = tt
early_is_fault statuses.NoMemory h = tt
early_is_fault _ h = absurd h

-- an answer that wasn't written is a fault
unwritten_fault : (refusal : Refusal) (request : Request) (work : Work) → IsNotWritten refusal request work → IsEarlyFault (status_of refusal)
unwritten_fault WriteFault request work h = tt
unwritten_fault NoMemory request work h = tt
unwritten_fault _ request work h = absurd h

switch_is_fault : (refusal : Refusal) (request : Request) (work : Work) → IsSwitchFaulty refusal request work → IsFault (status_of refusal)
switch_is_fault SwitchFault request work h = tt
switch_is_fault _ request work h = absurd h

-- a switch fails only behind all gates
failed_passed : (refusal : Refusal) (request : Request) (work : Work) → IsSwitchFaulty refusal request work
    → AllPassed (gates_of request) work.files.told
failed_passed SwitchFault request work h = h.all.passed
failed_passed _ request work h = absurd h

-- where a gate is shut so, a call ends so, or by a fault
abbrev pub EndsSo : Blame → Status → Call → Type 0
EndsSo (WithStatus status) result call = IsUnlessEarlyFault status result
EndsSo (WithCause cause) result call = IsBlamedFor cause result call

fault_ends : (blame : Blame) (result : Status) (call : Call) → IsEarlyFault result → EndsSo blame result call
fault_ends (WithStatus status) result call fault = inr fault
fault_ends (WithCause cause) result call fault = inr fault

told_ends : (blame : Blame) (refusal : Refusal) (result : Status) (call : Call) → IsFound blame refusal
    → IsTold refusal result call.err call.err_after → EndsSo blame result call
told_ends blame refusal result call found (ends.Failed, is, written) = fault_ends blame result call (subst IsEarlyFault (sym is) tt)
told_ends blame refusal result call found (ends.NoMemory, is, written) = fault_ends blame result call (subst IsEarlyFault (sym is) tt)
told_ends (WithStatus status) refusal result call found (ends.Done, is, written) = subst (IsUnlessEarlyFault status) (sym is) found
told_ends (WithCause cause) refusal result call (inr fault) (ends.Done, is, written) = inr (subst IsEarlyFault (sym is) fault)
told_ends (WithCause cause) refusal result call (inl same) (ends.Done, is, written) =
    inl (is ∙ ap status_of (sym same), written.taken ∙ ap (λ x. append_known call.err.taken (line_of x)) (sym same))

-- the first gate that is shut decides the status and the line
pub shut_ends : (blame : Blame) (request : Request) (result : Status) (call : Call) → EndsFor (Some request) result call
    → IsFirstShut call.work.files.told (gates_of request) blame → EndsSo blame result call
shut_ends blame request result call (inl (is, (text, answer, taken, read, aside), counts, silent)) shut =
    let work = call.work in
    let passed = answer_passed text request work.files.told work.port work.port_after answer in
    absurd (passed_unshut (gates_of request) blame work.files passed shut)
shut_ends blame request result call (inr (refusal, (inl first, few, aside), counts, told)) shut =
    told_ends blame refusal result call
    (gates_found blame refusal (gates_of request) call.work.files call.work.files_after shut first.0) told
shut_ends blame request result call (inr (refusal, (inr (inl faulty), few, aside), counts, told)) shut =
    let passed = failed_passed refusal request call.work faulty.0 in
    absurd (passed_unshut (gates_of request) blame call.work.files passed shut)
shut_ends blame request result call (inr (refusal, (inr (inr unput), few, aside), counts, told)) shut =
    told_ends blame refusal result call (fault_found blame refusal (unwritten_fault refusal request call.work unput)) told

-- where all gates are open, a request is done unless there is a fault
open_fault : (refusal : Refusal) (request : Request) (work : Work) → AllOpen work.files.told (gates_of request)
    → HasCause refusal (Some request) work → IsFault (status_of refusal)
open_fault refusal request work free (inl first, few, aside) =
    early_is_fault (status_of refusal) (open_gates refusal (gates_of request) work.files work.files_after free first.0)
open_fault refusal request work free (inr (inl faulty), few, aside) = switch_is_fault refusal request work faulty.0
open_fault refusal request work free (inr (inr unput), few, aside) =
    early_is_fault (status_of refusal) (unwritten_fault refusal request work unput)

told_fault : (refusal : Refusal) (end : SinkEnd) → IsFault (status_of refusal) → IsFault (after_line refusal end)
told_fault refusal ends.Done fault = fault
told_fault refusal ends.Failed fault = tt
told_fault refusal ends.NoMemory fault = tt

pub open_ends : (request : Request) (result : Status) (call : Call) → EndsFor (Some request) result call
    → AllOpen call.work.files.told (gates_of request) → IsUnlessFault statuses.Done result
open_ends request result call (inl done) free = inl done.0
open_ends request result call (inr (refusal, cause, counts, (end, is, written))) free =
    inr (subst IsFault (sym is) (told_fault refusal end (open_fault refusal request call.work free cause)))
