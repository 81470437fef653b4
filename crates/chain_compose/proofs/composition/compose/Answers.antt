use Rattle.std.proofs.Common.{◌≡◌, ◌<◌, ◌+◌, ℕ, List, length, IfOk, IfErr, subst}
use Rattle.packet_fields.specs.declared.packet.Packet.{Packet}
use Rattle.packet_fields.specs.Arrivals.{IsArrival}
use Rattle.state_store.specs.Kept.{IsKept}
use Rattle.state_store.specs.Store.{Store, object_at}
use Rattle.element_lang.specs.declared.tree.Middlebox.{Middlebox}
use Rattle.element_lang.specs.Meaning.{source_store, source_verdict}
use Rattle.element_lang.specs.Tree.{Tree}
use Rattle.element_lang.specs.View.{tree}
use Rattle.element_chain.specs.Chain.{Connected, element_at, store_at, chain_run}
use Rattle.element_chain.specs.Compose.{composed, joined, base_of}
use Rattle.element_chain.specs.Laws.{AreKept}
use Rattle.chain_compose.specs.Parts.{connected}
use Rattle.chain_compose.specs.Refusals.{IsRefused, IsUnrefused}
use Rattle.chain_compose.proofs.Answered.{exact, found, of_made}
use Rattle.element_chain.proofs.Laws.{composition_keeps_the_meaning-objects, composition_keeps_the_meaning-parts, composition_keeps_the_meaning-store, composition_keeps_the_meaning-verdict}
use Rattle.chain_compose.proofs.composition.compose.Goals as goal

pub returns-clause-exact : goal.returns-clause-exact
returns-clause-exact c =
    let r = c.compose_elements.result in
    let wires = c.args.chain.now.wires in
    exact (connected c.args.classes.now.items wires) r
    (subst (λ (ms : List Middlebox). IfOk r (λ (_ : Middlebox). IsUnrefused (connected ms wires))) c.deref.ensures.value c.compose_elements.ensures.unrefused)
    (subst (λ (ms : List Middlebox). IfErr r (IsRefused (connected ms wires))) c.deref.ensures.value c.compose_elements.ensures.refused)

pub returns-clause-found : goal.returns-clause-found
returns-clause-found c =
    let r = c.compose_elements.result in
    let wires = c.args.chain.now.wires in
    found (connected c.args.classes.now.items wires) r
    (subst (λ (ms : List Middlebox). IfOk r (λ (m : Middlebox). tree m ≡ composed (connected ms wires))) c.deref.ensures.value c.compose_elements.ensures.made)
    (subst (λ (ms : List Middlebox). IfErr r (IsRefused (connected ms wires))) c.deref.ensures.value c.compose_elements.ensures.refused)

pub returns-clause-verdict : goal.returns-clause-verdict
returns-clause-verdict g =
    let wires = g.args.chain.now.wires in
    let c : Connected = connected g.args.classes.now.items wires in
    of_made
    (λ (t : Tree). (stores : List Store) (packet : Packet) → AreKept c.elements stores → IsArrival packet → source_verdict t (joined stores) packet ≡ (chain_run c stores packet).verdict)
    g.deref.result.now g.args.classes.now.items wires g.compose_elements.result g.deref.ensures.value
    g.compose_elements.ensures.made g.compose_elements.ensures.fits
    (λ fit stores packet kept arrives. composition_keeps_the_meaning-verdict c stores packet fit kept arrives)

pub returns-clause-stores : goal.returns-clause-stores
returns-clause-stores g =
    let wires = g.args.chain.now.wires in
    let c : Connected = connected g.args.classes.now.items wires in
    of_made
    (λ (t : Tree). (stores : List Store) (packet : Packet) → AreKept c.elements stores → IsArrival packet → source_store t (joined stores) packet ≡ joined (chain_run c stores packet).stores)
    g.deref.result.now g.args.classes.now.items wires g.compose_elements.result g.deref.ensures.value
    g.compose_elements.ensures.made g.compose_elements.ensures.fits
    (λ fit stores packet kept arrives. composition_keeps_the_meaning-store c stores packet fit kept arrives)

pub returns-clause-objects : goal.returns-clause-objects
returns-clause-objects g =
    let wires = g.args.chain.now.wires in
    let c : Connected = connected g.args.classes.now.items wires in
    of_made
    (λ (t : Tree). (stores : List Store) (packet : Packet) (e o : ℕ) → AreKept c.elements stores → IsArrival packet → e < length c.elements → o < length (element_at c.elements e).objects
    → object_at (source_store t (joined stores) packet) (base_of c.elements e + o) ≡ object_at (store_at (chain_run c stores packet).stores e) o)
    g.deref.result.now g.args.classes.now.items wires g.compose_elements.result g.deref.ensures.value
    g.compose_elements.ensures.made g.compose_elements.ensures.fits
    (λ fit stores packet e o kept arrives low there. composition_keeps_the_meaning-objects c stores packet e o fit kept arrives low there)

pub returns-clause-parts : goal.returns-clause-parts
returns-clause-parts g =
    let wires = g.args.chain.now.wires in
    let c : Connected = connected g.args.classes.now.items wires in
    of_made (λ (t : Tree). (store : Store) → IsKept t.objects store → (stores : List Store) × AreKept c.elements stores × (store ≡ joined stores))
    g.deref.result.now g.args.classes.now.items wires g.compose_elements.result g.deref.ensures.value
    g.compose_elements.ensures.made g.compose_elements.ensures.fits
    (λ fit store kept. composition_keeps_the_meaning-parts c store kept)

pub returns-clause-refused : goal.returns-clause-refused
returns-clause-refused c =
    let r = c.compose_elements.result in
    let wires = c.args.chain.now.wires in
    subst (λ (ms : List Middlebox). IfErr r (IsRefused (connected ms wires))) c.deref.ensures.value c.compose_elements.ensures.refused
