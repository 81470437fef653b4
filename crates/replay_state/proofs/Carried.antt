-- A fact about each packet that went up goes with it: to the server, and down.
use Rattle.std.proofs.Common.{◌≡◌, ℕ, ◌+◌, true, false, [], ◌∷◌, ◌++◌, Some, inl, inr, refl, sym, subst, length}
use Rattle.std.specs.Prelude.{slice_get, remove}
use Rattle.state_store.specs.Store.{Store}
use Rattle.replay_state.specs.Answers.{Answers, Setup}
use Rattle.replay_state.specs.State.{State, Pass, first_state}
use Rattle.run_model.specs.declared.event.Event.{Event}
use Rattle.replay_state.specs.Step.{applies, step}
use Rattle.replay_state.specs.Step.{pass_of}
use Rattle.replay_state.specs.Carried.{Carried}
pub use Rattle.replay_state.proofs.Walk.{EndsWell}
use Rattle.replay_state.proofs.Walk.{Closed, closed_step}
use Rattle.run_model.specs.Members.{Member}
use Rattle.run_model.proofs.Members.{get_member}
use Rattle.replay_state.proofs.Lists.{member_remove, member_push, member_set}
use Rattle.lemmas.proofs.Tests.{true_not_false}
use Rattle.replay_state.proofs.Effects.{pair_first}

pub carried_first : (P : ℕ → Type 0) (start : Store) → Carried P (first_state start)
carried_first P start = record { up = λ n m. absurd m; held = λ n v m. absurd m; down = λ n m. absurd m; passes = λ x m. absurd m }

-- the same lists
same_lists : (P : ℕ → Type 0) (w x : State) → x.up ≡ w.up → x.held ≡ w.held → x.down ≡ w.down → x.passes ≡ w.passes → Carried P w → Carried P x
same_lists P w x p q r t c = record {
  up = subst (λ l. (n : ℕ) → Member n l → P n) (sym p) c.up;
  held = subst (λ l. (n need : ℕ) → Member (n, need) l → P n) (sym q) c.held;
  down = subst (λ l. (n : ℕ) → Member n l → P n) (sym r) c.down;
  passes = subst (λ l. (z : Pass) → Member z l → z.pre ≡ false → P z.number) (sym t) c.passes;
}

module _ (setup : Setup) (a : Answers) (P : ℕ → Type 0) where
  -- one pass fewer, one more that isn't behind the server or has the fact, or one changed
  fewer : (w : State) (j : ℕ) → Carried P w → (z : Pass) → Member z (remove w.passes j) → z.pre ≡ false → P z.number
  fewer w j c z m h = c.passes z (member_remove w.passes j z m) h

  one_more : (w : State) (x : Pass) → (x.pre ≡ false → P x.number) → Carried P w → (z : Pass) → Member z (w.passes ++ x ∷ []) → z.pre ≡ false → P z.number
  one_more w x p c z m h = elim (member_push w.passes x z m) [ inl e ↦ subst (λ (q : Pass). q.pre ≡ false → P q.number) e p h | inr old ↦ c.passes z old h ]

  one_held : (w : State) (j n v : ℕ) → slice_get w.up j ≡ Some n → Carried P w → (m need : ℕ) → Member (m, need) (w.held ++ (n, v) ∷ []) → P m
  one_held w j n v g c m need h = elim (member_push w.held (n, v) (m, need) h) [
    | inl e ↦ subst P (pair_first n v m need e) (c.up n (get_member w.up j n g))
    | inr old ↦ c.held m need old
  ]

  carried_closed : Closed setup a P (Carried P)
  carried_closed = record {
    let_in = λ w low c. record { up = c.up; held = c.held; down = c.down; passes = one_more w (pass_of w true (length w.progress) setup.pre_stages) (λ t. absurd (true_not_false t)) c };
    let_down = λ w j n g c. record {
      up = c.up;
      held = c.held;
      down = λ m h. c.down m (member_remove w.down j m h);
      passes = one_more w (pass_of w false n setup.post_stages) (λ t. c.down n (get_member w.down j n g)) c;
    };
    finished = λ w j x y g t e c. record { up = c.up; held = c.held; down = c.down; passes = fewer w j c };
    sent_up = λ w j x g t e q c. record {
      up = λ m h. elim (member_push w.up x.number m h) [ inl is ↦ subst P is q | inr old ↦ c.up m old ];
      held = c.held;
      down = c.down;
      passes = fewer w j c;
    };
    out = λ w j x g t c. record { up = c.up; held = c.held; down = c.down; passes = fewer w j c };
    moved = λ w j x g c. record {
      up = c.up;
      held = c.held;
      down = c.down;
      passes = λ z m h. elim (member_set w.passes j _ z m) [
        | inl e ↦ subst (λ (q : Pass). q.pre ≡ false → P q.number) e (c.passes x (get_member w.passes j x g)) h
        | inr old ↦ c.passes z old h
      ];
    };
    unseen = λ w j n g e c. record { up = λ m h. c.up m (member_remove w.up j m h); held = one_held w j n w.version g c; down = c.down; passes = c.passes };
    shown = λ w j n u us g e c. record { up = λ m h. c.up m (member_remove w.up j m h); held = one_held w j n (w.version + 1) g c; down = c.down; passes = c.passes };
    go = λ w j n need g low c. record {
      up = c.up;
      held = λ m v h. c.held m v (member_remove w.held j (m, v) h);
      down = λ m h. elim (member_push w.down n m h) [ inl e ↦ subst P e (c.held n need (get_member w.held j (n, need) g)) | inr old ↦ c.down m old ];
      passes = c.passes;
    };
    sent = λ w low c. same_lists P w _ refl refl refl refl c;
    applied = λ w low free c. same_lists P w _ refl refl refl refl c;
    acked = λ w low c. same_lists P w _ refl refl refl refl c;
  }

  pub carried_step : (w : State) (e : Event) → (applies setup w e ≡ true → EndsWell setup a P w e) → Carried P w → Carried P (step setup a w e)
  carried_step w e ends c =
      closed_step setup a P (Carried P) carried_closed (λ x k. same_lists P x _ refl refl refl refl k) (λ x k. same_lists P x _ refl refl refl refl k) w e ends c

pub carried_weaker : (P Q : ℕ → Type 0) (w : State) → ((n : ℕ) → P n → Q n) → Carried P w → Carried Q w
carried_weaker P Q w f c = record {
  up = λ n m. f n (c.up n m);
  held = λ n v m. f n (c.held n v m);
  down = λ n m. f n (c.down n m);
  passes = λ x m h. f x.number (c.passes x m h);
}
