-- Which gate a refusal blames, and what it leaves then.
use Rattle.std.proofs.Common.{◌≡◌, ◌⊎◌, ℕ, Bool, List, [], ◌∷◌, Option, Some, None, inl, inr}
use Rattle.gal_io.specs.Count.{Rose}
use Rattle.gal_io.specs.Files.{FilesState}
use Rattle.element_lang.specs.Tree.{Tree}
use Rattle.element_chain.specs.declared.chain.Chain.{Chain as ChainTold}
use Rattle.flat_ir.specs.Program.{Program}
use Rattle.flatten.specs.Flatten.{flat_of}
use Rattle.resource_limits.specs.declared.limits.Limits.{Limits}
use Rattle.gallium_cli.specs.declared.status.Status.{Status}
use Rattle.gallium_cli.specs.declared.status.Status.TheVariants as statuses
use Rattle.gallium_cli.specs.declared.refusal.Refusal.{Refusal}
use Rattle.gallium_cli.specs.declared.refusal.Refusal.TheVariants.{Usage, TooLong, ReadFault, WriteFault, SwitchFault, ClassTooLong, ClassReadFault}
use Rattle.gallium_cli.specs.Lines.{status_of}
use Rattle.gallium_cli.specs.Roles.{Role, legal_split, true_report, Gate, File, Choice, SplitFile, ReportFile, Composed}
use Rattle.gallium_cli.specs.Chains.{IsClassRefused, IsFirstClassRefused, IsUncomposed, IsWired, class_files}
use Rattle.gallium_cli.specs.Loads.{IsFileRefused}
use Rattle.gallium_cli.specs.Causes.{IsFirstRefused, IsUnchosen}
use Rattle.gallium_cli.specs.Promises.{IsOneOf}

-- A refusal that blames this name, and leaves the files so, comes of the file of that name alone.
pub record IsBlaming (refusal : Refusal) (blamed : Option (List ℕ)) (f f' : FilesState) (Leaves : Type 0) : Type 0 where
  pub file : (role : Role) (name : List ℕ) → IsFileRefused refusal role name f f' → Leaves × (blamed ≡ Some name)
  pub choice : (q : Program) (allowed : Limits) (shrink : Bool) → IsUnchosen refusal q allowed shrink → ⊥
  pub class : (name : List ℕ) → IsClassRefused refusal name f f' → Leaves × (blamed ≡ Some name)
  pub chain : (chain : ChainTold) (ms : List Tree) → IsUncomposed refusal chain ms → ⊥

-- the files that may be blamed at gates: those that they name, and those of the classes of a chain
abbrev pub BlamesIn : (List ℕ → Option (List ℕ)) → List Gate → Option (List ℕ) → Type 0
BlamesIn told [] blamed = ⊥
BlamesIn told (File name role ∷ gates) blamed = (blamed ≡ Some name) ⊎ BlamesIn told gates blamed
BlamesIn told (Choice s l shrink ∷ gates) blamed = BlamesIn told gates blamed
BlamesIn told (SplitFile s l p ∷ gates) blamed = (blamed ≡ Some p) ⊎ BlamesIn told gates blamed
BlamesIn told (ReportFile s t r ∷ gates) blamed = (blamed ≡ Some r) ⊎ BlamesIn told gates blamed
BlamesIn told (Composed w ∷ gates) blamed =
    ((chain : ChainTold) × IsWired told w chain × IsOneOf (class_files chain.elements) blamed)
    ⊎ BlamesIn told gates blamed

blamed_class : (refusal : Refusal) (blamed : Option (List ℕ)) (f f' : FilesState) (Leaves : Type 0)
    → IsBlaming refusal blamed f f' Leaves → (names : List (List ℕ)) → IsFirstClassRefused refusal names f f'
    → Leaves × IsOneOf names blamed
blamed_class refusal blamed f f' Leaves is [] first = absurd first
blamed_class refusal blamed f f' Leaves is (name ∷ names) (inl here) = let one = is.class name here in (one.0, inl one.1)
blamed_class refusal blamed f f' Leaves is (name ∷ names) (inr later) =
    let rest = blamed_class refusal blamed f f' Leaves is names later.1 in (rest.0, inr rest.1)

pub blamed_in : (refusal : Refusal) (blamed : Option (List ℕ)) (f f' : FilesState) (Leaves : Type 0)
    → IsBlaming refusal blamed f f' Leaves → (gates : List Gate) → IsFirstRefused refusal gates f f'
    → Leaves × BlamesIn f.told gates blamed
blamed_in refusal blamed f f' Leaves is [] first = absurd first
blamed_in refusal blamed f f' Leaves is (File name role ∷ gates) (inl here) =
    let one = is.file role name here in (one.0, inl one.1)
blamed_in refusal blamed f f' Leaves is (Choice s l shrink ∷ gates) (inl (m, allowed, found, why)) =
    absurd (is.choice (flat_of m) allowed shrink why)
blamed_in refusal blamed f f' Leaves is (SplitFile s l p ∷ gates) (inl (m, allowed, found, here)) =
    let one = is.file (legal_split (flat_of m) allowed) p here in (one.0, inl one.1)
blamed_in refusal blamed f f' Leaves is (ReportFile s t r ∷ gates) (inl (m, packets, found, here)) =
    let one = is.file (true_report m packets) r here in (one.0, inl one.1)
blamed_in refusal blamed f f' Leaves is (Composed w ∷ gates) (inl (chain, wired, inl first)) =
    let one = blamed_class refusal blamed f f' Leaves is (class_files chain.elements) first in (one.0, inl (chain, wired, one.1))
blamed_in refusal blamed f f' Leaves is (Composed w ∷ gates) (inl (chain, wired, inr (ms, are, why))) =
    absurd (is.chain chain ms why)
blamed_in refusal blamed f f' Leaves is (Choice s l shrink ∷ gates) (inr later) =
    blamed_in refusal blamed f f' Leaves is gates later.1
blamed_in refusal blamed f f' Leaves is (gate ∷ gates) (inr later) =
    let rest = blamed_in refusal blamed f f' Leaves is gates later.1 in (rest.0, inr rest.1)

-- ## A file that is too long, and one that can't be read

abbrev pub IsTooLong : Status → Type 0
IsTooLong statuses.TooLong = Unit {0}
IsTooLong _ = ⊥

pub long_blames : (refusal : Refusal) (f f' : FilesState) → IsTooLong (status_of refusal)
    → IsBlaming refusal f'.overlong_name f f' (Rose f.overlong f'.overlong)
long_blames (TooLong blamed) f f' is =
    record { file = λ role name h. (h.1.2, h.1.1); choice = λ q allowed shrink h. h; class = λ name h. absurd h; chain = λ chain ms h. h }
long_blames (ClassTooLong file) f f' is =
    record { file = λ role name h. absurd h.0; choice = λ q allowed shrink h. h; class = λ name h. (h.1.2, h.1.1); chain = λ chain ms h. h }
long_blames _ f f' is = absurd is

abbrev pub IsReadFault : Status → Type 0
IsReadFault statuses.ReadFault = Unit {0}
IsReadFault _ = ⊥

pub fault_blames : (refusal : Refusal) (f f' : FilesState) → IsReadFault (status_of refusal)
    → IsBlaming refusal f'.fault_name f f' (Rose f.faults f'.faults)
fault_blames (ReadFault blamed) f f' is =
    record { file = λ role name h. (h.1.1, h.1.0); choice = λ q allowed shrink h. h; class = λ name h. absurd h; chain = λ chain ms h. h }
fault_blames (ClassReadFault file) f f' is =
    record { file = λ role name h. absurd h.0; choice = λ q allowed shrink h. h; class = λ name h. (h.1.1, h.1.0); chain = λ chain ms h. h }
fault_blames _ f f' is = absurd is

-- ## What no gate is refused for

-- the words, out or the switch
abbrev pub IsOfNoGate : Status → Type 0
IsOfNoGate statuses.Usage = Unit {0}
IsOfNoGate statuses.WriteFault = Unit {0}
IsOfNoGate statuses.SwitchFault = Unit {0}
IsOfNoGate _ = ⊥

none_blames : (refusal : Refusal) (f f' : FilesState) → IsOfNoGate (status_of refusal) → IsBlaming refusal None f f' ⊥
none_blames Usage f f' is =
    record { file = λ role name h. absurd h.0; choice = λ q allowed shrink h. h; class = λ name h. absurd h; chain = λ chain ms h. h }
none_blames WriteFault f f' is =
    record { file = λ role name h. absurd h.0; choice = λ q allowed shrink h. h; class = λ name h. absurd h; chain = λ chain ms h. h }
none_blames SwitchFault f f' is =
    record { file = λ role name h. absurd h.0; choice = λ q allowed shrink h. h; class = λ name h. absurd h; chain = λ chain ms h. h }
none_blames _ f f' is = absurd is

pub no_gate : (refusal : Refusal) (gates : List Gate) (f f' : FilesState) → IsOfNoGate (status_of refusal)
    → IsFirstRefused refusal gates f f' → ⊥
no_gate refusal gates f f' is first = (blamed_in refusal None f f' ⊥ (none_blames refusal f f' is) gates first).0
