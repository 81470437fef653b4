-- What the chain of a file comes to.
use Rattle.std.proofs.Common.{◌≡◌, ◌≢◌, ◌≤◌, ◌<◌, ◌+◌, ◌⊎◌, ℕ, List, [], ◌∷◌, length, IsTrue, Some, IfSome, inl, inr, refl, sym, ap, subst, ◌∙◌, arith}
use Rattle.gal_io.specs.Files.{FilesState}
use Rattle.gal_io.specs.Sink.{SinkState}
use Rattle.packet_fields.specs.declared.packet.Packet.{Packet}
use Rattle.packet_fields.specs.Arrivals.{IsArrival}
use Rattle.state_store.specs.Kept.{IsKept}
use Rattle.state_store.specs.Store.{Store, object_at}
use Rattle.element_lang.specs.Accepted.{IsSource}
use Rattle.element_lang.specs.Meaning.{source_store, source_verdict}
use Rattle.element_lang.specs.Rules.{is_good}
use Rattle.element_lang.specs.Surface.{named}
use Rattle.element_lang.specs.Tree.{Tree}
use Rattle.element_print.specs.Printed.{print_tokens, text_of}
use Rattle.element_print.specs.ReadsBack.{IsWithinSizes}
use Rattle.element_chain.specs.declared.chain.Chain.{Chain as ChainTold}
use Rattle.element_chain.specs.declared.chain.Element.{Element}
use Rattle.element_chain.specs.Chain.{Connected, element_at, store_at, chain_run}
use Rattle.element_chain.specs.Compose.{composed, joined, base_of}
use Rattle.element_chain.specs.Laws.{AreKept}
use Rattle.chain_text.specs.Reads.{IsChainText, IsRefused}
use Rattle.chain_text.specs.declared.error.ChainTextError.{ChainTextError}
use Rattle.chain_text.specs.declared.error.ChainTextError.TheVariants as chains
use Rattle.chain_compose.specs.Refusals.{IsUnrefused, KeepsSizes}
use Rattle.chain_compose.specs.declared.error.What.TheVariants.{Objects, Entries, Writes, Depth}
use Rattle.switch_ir.specs.Port.{PortState}
use Rattle.gallium_cli.specs.declared.status.Status.TheVariants as statuses
use Rattle.gallium_cli.specs.declared.refusal.Refusal.{Refusal}
use Rattle.gallium_cli.specs.declared.refusal.Refusal.TheVariants as refusals
use Rattle.gallium_cli.specs.Call.{work_of}
use Rattle.gallium_cli.specs.Lines.{status_of}
use Rattle.gallium_cli.specs.Words.{Chain}
use Rattle.gallium_cli.specs.Roles.{source, wiring, size_of, gates_of}
use Rattle.gallium_cli.specs.Loads.{LeavesFiles, IsFileRefused, IsUnread, raised_by}
use Rattle.gallium_cli.specs.Chains.{AreClasses, IsFirstClassRefused, IsOneSource, IsUncomposed, IsWired, class_files, class_refusal, connected}
use Rattle.gallium_cli.specs.Answers.{IsAnswer}
use Rattle.gallium_cli.specs.Causes.{CountsFaults, HasCause, IsFirstRefused, ReadsAll, reads_after}
use Rattle.gallium_cli.proofs.Written.{IsNoFileFault, goes_further, goes_still, all_some, gate_ended}
use Rattle.gallium_cli.proofs.Files.{first_class_later, passed_wiring, told_before}

-- ## The text

-- it is refused for this cause alone
pub chain_unread : (fault : ChainTextError) (text : List ℕ) → fault ≢ chains.NoMemory → IsRefused text fault
    → ((e : ChainTextError) → e ≢ chains.NoMemory → IsRefused text e → (fault ≡ e) ⊎ (fault ≡ chains.NoMemory))
    → ((chain : ChainTold) → IsChainText text chain → fault ≡ chains.NoMemory)
    → IsUnread (refusals.Chain fault) wiring text
chain_unread fault text some is exact found = (
  some,
  (
    (some, λ (chain, spelled). some (found chain spelled), is),
    λ other here refused. elim (exact other here refused) [ inl same ↦ sym same | inr none ↦ absurd (some none) ],
  ),
)

-- ## Files of classes

-- what is told of the file of a class leaves the files as they are
pub class_goes : (refusal : Refusal) (name file : List ℕ) (f f' : FilesState) → IsFileRefused refusal source file f f'
    → LeavesFiles (status_of refusal) f f' → LeavesFiles (status_of (class_refusal refusal name)) f f'
class_goes (refusals.Source fault) name file f f' refused goes = goes
class_goes (refusals.TooLong blamed) name file f f' refused goes = goes
class_goes (refusals.ReadFault blamed) name file f f' refused goes = goes
class_goes refusals.NoMemory name file f f' refused goes = goes
class_goes _ name file f f' refused goes = absurd refused.0

-- ## The composed source

within_sizes : (t m : Tree) → t ≡ m → KeepsSizes m → IsWithinSizes t
within_sizes t m made sizes =
    let here : IsWithinSizes m = record {
      depth = sizes Depth;
      objects = sizes Objects;
      entries = sizes Entries;
      writes = sizes Writes;
    } in
    subst (λ (x : Tree). IsWithinSizes x) (sym made) here

-- what is known of the middlebox that is composed
pub record DoesSame (c : Connected) (t : Tree) : Type 0 where
  pub verdict : (stores : List Store) (packet : Packet) → AreKept c.elements stores → IsArrival packet
      → source_verdict t (joined stores) packet ≡ (chain_run c stores packet).verdict
  pub stores : (stores : List Store) (packet : Packet) → AreKept c.elements stores → IsArrival packet
      → source_store t (joined stores) packet ≡ joined (chain_run c stores packet).stores
  pub objects : (stores : List Store) (packet : Packet) (e o : ℕ) → AreKept c.elements stores → IsArrival packet
      → e < length c.elements → o < length (element_at c.elements e).objects
      → object_at (source_store t (joined stores) packet) (base_of c.elements e + o)
      ≡ object_at (store_at (chain_run c stores packet).stores e) o
  pub parts : (store : Store) → IsKept t.objects store
      → (stores : List Store) × AreKept c.elements stores × (store ≡ joined stores)

-- what is printed of it is one source of the chain
pub one_source : (c : Connected) (t : Tree) (text : List ℕ) → t ≡ composed c → IsUnrefused c → IsTrue (is_good t)
    → text ≡ text_of (print_tokens (named t)) → (IsWithinSizes t → IsSource text t) → DoesSame c t → IsOneSource c text
one_source c t text made unrefused good printed reads does =
    let same : DoesSame c (composed c) = subst (λ (m : Tree). DoesSame c m) made does in
    record {
      unrefused = unrefused;
      printed = printed ∙ ap (λ (m : Tree). text_of (print_tokens (named m))) made;
      source = subst (λ (m : Tree). IsSource text m) made (reads (within_sizes t (composed c) made unrefused.sizes));
      rules = subst (λ (m : Tree). IsTrue (is_good m)) made good;
      verdict = same.verdict;
      stores = same.stores;
      objects = same.objects;
      parts = same.parts;
    }

-- ## Reads

-- the files of the classes are read behind that of the chain
read_all : (w : List ℕ) (names : List (List ℕ)) (x y z : ℕ) → y ≡ raised_by 1 x → z ≡ reads_after names y
    → z ≡ reads_after (w ∷ names) x
read_all w [] x y z one two = two ∙ one
read_all w (name ∷ names) x y z one two = omega arith

read_some : (w : List ℕ) (names : List (List ℕ)) (x y z : ℕ) → y ≡ raised_by 1 x → z ≤ reads_after names y
    → z ≤ reads_after (w ∷ names) x
read_some w [] x y z one two = omega arith
read_some w (name ∷ names) x y z one two = omega arith

-- ## Causes

-- the file of a chain is refused
pub wiring_ended : (refusal : Refusal) (w : List ℕ) (f g : FilesState) (p : PortState) (o : SinkState)
    → IsFileRefused refusal wiring w f g → g.reads ≡ raised_by 1 f.reads → LeavesFiles (status_of refusal) f g
    → HasCause refusal (Some (Chain w)) (work_of f g p p o o) × CountsFaults (status_of refusal) (work_of f g p p o o)
wiring_ended refusal w f g p o refused read goes =
    gate_ended refusal (Chain w) f g p o (inl refused)
    (w ∷ [], inl refl, read_some w [] f.reads g.reads g.reads read (omega arith)) goes

-- a chain that was read
pub record IsRead (w : List ℕ) (chain : ChainTold) (f g : FilesState) : Type 0 where
  pub wired : IsWired f.told w chain
  pub goes : LeavesFiles statuses.Done f g
  pub read : g.reads ≡ raised_by 1 f.reads

pub chain_read : (w : List ℕ) (chain : ChainTold) (f g : FilesState)
    → IfSome (f.told w) (λ text. (length text ≤ size_of wiring) × IsChainText text chain)
    → LeavesFiles statuses.Done f g → g.reads ≡ raised_by 1 f.reads → IsRead w chain f g
chain_read w chain f g spelled goes read = record { wired = spelled; goes = goes; read = read }

class_gates : (refusal : Refusal) (w : List ℕ) (chain : ChainTold) (f g h : FilesState) → IsRead w chain f g
    → IsFirstClassRefused refusal (class_files chain.elements) g h → IsFirstRefused refusal (gates_of (Chain w)) f h
class_gates refusal w chain f g h is first = inr (
  passed_wiring f.told w chain is.wired,
  inl (chain, is.wired, inl (first_class_later refusal (class_files chain.elements) f g h is.goes first)),
)

-- the file of a class of it is refused
pub class_ended : (refusal : Refusal) (w : List ℕ) (chain : ChainTold) (es : List Element) (f g h : FilesState)
    (p : PortState) (o : SinkState) → IsRead w chain f g → es ≡ chain.elements
    → IsFirstClassRefused refusal (class_files es) g h → h.reads ≤ reads_after (class_files es) g.reads
    → LeavesFiles (status_of refusal) g h
    → HasCause refusal (Some (Chain w)) (work_of f h p p o o) × CountsFaults (status_of refusal) (work_of f h p p o o)
class_ended refusal w chain es f g h p o is same first few goes =
    let here = subst (λ (xs : List Element). IsFirstClassRefused refusal (class_files xs) g h) same first in
    let some = subst (λ (xs : List Element). h.reads ≤ reads_after (class_files xs) g.reads) same few in
    gate_ended refusal (Chain w) f h p o (class_gates refusal w chain f g h is here) (
      w ∷ class_files chain.elements,
      inr (chain, is.wired, refl),
      read_some w (class_files chain.elements) f.reads g.reads h.reads is.read some,
    ) (goes_further (status_of refusal) f g h is.goes goes)

-- ## With the middleboxes

-- a chain whose middleboxes were read too
pub record AreRead (w : List ℕ) (chain : ChainTold) (ms : List Tree) (f h : FilesState) : Type 0 where
  pub wired : IsWired f.told w chain
  pub classes : AreClasses f.told chain.elements ms
  pub goes : LeavesFiles statuses.Done f h
  pub read : h.reads ≡ reads_after (w ∷ class_files chain.elements) f.reads

pub classes_read : (w : List ℕ) (chain : ChainTold) (es : List Element) (ms : List Tree) (f g h : FilesState)
    → IsRead w chain f g → es ≡ chain.elements → AreClasses g.told es ms → LeavesFiles statuses.Done g h
    → h.reads ≡ reads_after (class_files es) g.reads → AreRead w chain ms f h
classes_read w chain es ms f g h is same are goes read = record {
  wired = is.wired;
  classes = told_before (λ told. AreClasses told chain.elements ms) f g is.goes
      (subst (λ (xs : List Element). AreClasses g.told xs ms) same are);
  goes = goes_further statuses.Done f g h is.goes goes;
  read = read_all w (class_files chain.elements) f.reads g.reads h.reads is.read
      (subst (λ (xs : List Element). h.reads ≡ reads_after (class_files xs) g.reads) same read);
}

pub chain_reads : (w : List ℕ) (chain : ChainTold) (ms : List Tree) (f h : FilesState) → AreRead w chain ms f h
    → ReadsAll (Chain w) f h
chain_reads w chain ms f h are = (w ∷ class_files chain.elements, (chain, are.wired, refl), are.read)

uncomposed_gates : (refusal : Refusal) (w : List ℕ) (chain : ChainTold) (ms : List Tree) (f h : FilesState)
    → AreRead w chain ms f h → IsUncomposed refusal chain ms → IsFirstRefused refusal (gates_of (Chain w)) f h
uncomposed_gates refusal w chain ms f h are why =
    inr (passed_wiring f.told w chain are.wired, inl (chain, are.wired, inr (ms, are.classes, why)))

-- they aren't composed
uncomposed_status : (refusal : Refusal) (chain : ChainTold) (ms : List Tree) → IsUncomposed refusal chain ms
    → IsNoFileFault (status_of refusal)
uncomposed_status (refusals.Uncomposed told) chain ms why = (refl, refl)
uncomposed_status refusals.NoMemory chain ms why = (refl, refl)
uncomposed_status _ chain ms why = absurd why

pub uncomposed_ended : (refusal : Refusal) (w : List ℕ) (chain : ChainTold) (ms : List Tree) (f h : FilesState)
    (p : PortState) (o : SinkState) → AreRead w chain ms f h → IsUncomposed refusal chain ms
    → HasCause refusal (Some (Chain w)) (work_of f h p p o o) × CountsFaults (status_of refusal) (work_of f h p p o o)
uncomposed_ended refusal w chain ms f h p o are why =
    gate_ended refusal (Chain w) f h p o (uncomposed_gates refusal w chain ms f h are why)
    (all_some (Chain w) f h (chain_reads w chain ms f h are))
    (goes_still (status_of refusal) f h (uncomposed_status refusal chain ms why) are.goes)

-- or they are
pub chain_answer : (w : List ℕ) (chain : ChainTold) (ms : List Tree) (text sent : List ℕ) (f h : FilesState)
    (p p' : PortState) → AreRead w chain ms f h → IsOneSource (connected chain ms) text → sent ≡ text
    → IsAnswer sent (Chain w) f.told p p'
chain_answer w chain ms text sent f h p p' are one same =
    (chain, ms, are.wired, are.classes, subst (λ x. IsOneSource (connected chain ms) x) (sym same) one)
