-- A node's record goes by the messages brought to it, one message more at a time. Assumes nothing.
use Rattle.std.proofs.Common.{◌≡◌, ℕ, zero, suc, ◌+◌, ◌-◌, ◌*◌, ◌^◌, ◌≤◌, Bool, true, false, cond, ◌&&◌, eqb, List, ◌∷◌, set, Some, None, Option, sym, refl, ap, ◌∙◌, subst, ap₂, ⊎_elim, arith}
use Rattle.std.proofs.lemmas.Bool.{and_parts, and_from, and_left, and_right, eq-eqb, eqb-true, ne_eqb, cases_eq, cases_Bool, both_ways, false≢true}
use Rattle.sets.specs.Sets.{node?, nodes_with}
use Rattle.trust.specs.Trust.{Trust, holds_quorum, holds_kernel}
use Rattle.protocol.specs.Hearing.{absent, is, entry, once, taken, may_say, heeds, takes}
use Rattle.protocol.specs.declared.message.Place.{Place}
use Rattle.protocol.specs.declared.message.Kind.{Kind}
use Rattle.protocol.specs.declared.message.Kind.TheVariants.{Send, Echo, Ready}
use Rattle.protocol.specs.declared.record.Record.{Record}
use Rattle.broadcast.proofs.Places.{IsSome, cases_none, absent_none}
use Rattle.broadcast.proofs.Entries.{Fit, node_bounds, entry_here, entry_other}
use Rattle.broadcast.proofs.Hearing.{Shaped, heeds_from}
use Rattle.runs.specs.Laws.{same_kind, Arrival, or_else, first, first_from, new, ready_now, deliver_now, RecordedBy}
use Rattle.runs.proofs.LawsSteps.{kind_is_same, echo_quorum, ready_kernel, ready_quorum}

-- the first that passes, with one more message
module _ (p : Arrival → List Arrival → Bool) (l : Arrival) (ls : List Arrival) where
  first_skip : p l ls ≡ false → first p (l ∷ ls) ≡ first p ls
  unfolding first
  first_skip e = go (first p ls) (p l ls) e
    where
      go : (o : Option Place) (b : Bool) → b ≡ false → or_else o (cond b l.value None) ≡ o
      go (Some u) b f = refl
      go None true f = absurd (false≢true (sym f))
      go None false f = refl

  first_had : IsSome (first p ls) → first p (l ∷ ls) ≡ first p ls
  unfolding first
  first_had (u, e) = ap (λ o. or_else o (cond (p l ls) l.value None)) e ∙ sym e

  first_once : (v : Place) → l.value ≡ Some v → first p (l ∷ ls) ≡ once (p l ls) v (first p ls)
  unfolding first
  first_once v e = ap (λ o. or_else (first p ls) (cond (p l ls) o None)) e ∙ go (first p ls) (p l ls)
    where
      go : (o : Option Place) (b : Bool) → or_else o (cond b (Some v) None) ≡ once b v o
      go (Some u) b = refl
      go None b = refl

nodes_same : (n : ℕ) (p q : ℕ → Bool) → ((i : ℕ) → 1 ≤ i → p i ≡ q i) → nodes_with n p ≡ nodes_with n q
unfolding nodes_with
nodes_same zero p q h = refl
nodes_same (suc n) p q h = ap₂ (λ a b. a + cond b 1 0 * 2 ^ n) (nodes_same n p q h) (h (suc n) (omega arith))

module _ (m : Kind) (j : ℕ) (o : Option Place) (ls : List Arrival) where
  abbrev l : Arrival
  l = record { kind = m; from = j; value = o }

  from_other_node : (n : Kind) (i : ℕ) → (j ≡ i → ⊥) → first_from n i (l ∷ ls) ≡ first_from n i ls
  from_other_node n i ne = first_skip _ l ls (and_right (same_kind m n) (eqb j i) (ne_eqb j i ne))

  from_other_kind : (n : Kind) (i : ℕ) → same_kind m n ≡ false → first_from n i (l ∷ ls) ≡ first_from n i ls
  from_other_kind n i e = first_skip _ l ls (and_left (same_kind m n) (eqb j i) e)

  from_here : (v : Place) → o ≡ Some v → first_from m j ls ≡ None → first_from m j (l ∷ ls) ≡ Some v
  from_here v is_v none =
      first_once _ l ls v is_v ∙ ap (once (same_kind m m && eqb j j) v) none
      ∙ ap (λ b. cond b (Some v) None) (and_from (same_kind m m) (eqb j j) (kind_is_same m) (eq-eqb j j refl))

module _ (t : Trust) (me sender : ℕ) (r : Record) (ls : List Arrival) (rec : RecordedBy t me sender ls r) (j : ℕ) where
  send_heeded : (v : Place) → j ≡ sender → r.echoed ≡ None → RecordedBy t me sender (record { kind = Send; from = j; value = Some v } ∷ ls) (takes t me r Send j v).0
  send_heeded v is_sender free = record {
    echoed = sym (subst (λ i. first_from Send i (record { kind = Send; from = j; value = Some v } ∷ ls) ≡ Some v) is_sender
        (from_here Send j (Some v) ls v refl (ap (λ i. first_from Send i ls) is_sender ∙ sym rec.echoed ∙ free)));
    echoes = λ i low. rec.echoes i low ∙ sym (from_other_kind Send j (Some v) ls Echo i refl);
    readies = λ i low. rec.readies i low ∙ sym (from_other_kind Send j (Some v) ls Ready i refl);
    readied = rec.readied ∙ sym (first_skip (ready_now t me) _ ls (and_right (absent (first_from Send j ls)) false refl));
    delivered = rec.delivered ∙ sym (first_skip (deliver_now t me) _ ls (and_right (absent (first_from Send j ls)) false refl));
  }

  -- the entries with v from j
  entries : (n : Kind) (v : Place) (xs : List (Option Place)) → Fit t.size xs → node? t.size j ≡ true
      → entry xs j ≡ None → ((i : ℕ) → 1 ≤ i → entry xs i ≡ first_from n i ls) → (i : ℕ) → 1 ≤ i
      → entry (set xs (j - 1) (Some v)) i ≡ first_from n i (record { kind = n; from = j; value = Some v } ∷ ls)
  entries n v xs fit node free old i low =
      let (j_low, _) = node_bounds t.size j node in
      ⊎_elim
      (λ e. subst (λ a. entry (set xs (j - 1) (Some v)) a ≡ first_from n a (record { kind = n; from = j; value = Some v } ∷ ls)) e
      (entry_here t.size xs j v fit node ∙ sym (from_here n j (Some v) ls v refl (sym (old j j_low) ∙ free))))
      (λ ne. entry_other t.size xs j v fit node i low (λ e. ne (sym e)) ∙ old i low ∙ sym (from_other_node n j (Some v) ls n i ne)) (cases_eq j i)

  -- a first message counts as its test says
  counts_new : (n : Kind) (v : Place) (test old : Bool) → first_from n j ls ≡ None → old ≡ test → test ≡ (new (record { kind = n; from = j; value = Some v }) ls && old)
  counts_new n v test old none e = sym e ∙ sym (ap (λ o. absent o && old) none)

  echo_heeded : (v : Place) → Shaped t.size r → node? t.size j ≡ true → entry r.echoes j ≡ None → RecordedBy t me sender (record { kind = Echo; from = j; value = Some v } ∷ ls) (takes t me r Echo j v).0
  echo_heeded v shaped node free =
      let (j_low, _) = node_bounds t.size j node in
      let es = entries Echo v r.echoes shaped.echoes node free rec.echoes in
      let none = sym (rec.echoes j j_low) ∙ free in record {
        echoed = rec.echoed ∙ sym (from_other_kind Echo j (Some v) ls Send sender refl);
        echoes = es;
        readies = λ i low. rec.readies i low ∙ sym (from_other_kind Echo j (Some v) ls Ready i refl);
        readied = ap₂ (λ b o. once b v o)
            (counts_new Echo v (echo_quorum t me r j v) _ none (ap (holds_quorum t me) (sym (nodes_same 16 _ _ (λ i low. ap (is v) (es i low)))))) rec.readied
            ∙ sym (first_once (ready_now t me) _ ls v refl);
        delivered = rec.delivered ∙ sym (first_skip (deliver_now t me) _ ls (and_right (absent (first_from Echo j ls)) false refl));
      }

  ready_heeded : (v : Place) → Shaped t.size r → node? t.size j ≡ true → entry r.readies j ≡ None → RecordedBy t me sender (record { kind = Ready; from = j; value = Some v } ∷ ls) (takes t me r Ready j v).0
  ready_heeded v shaped node free =
      let (j_low, _) = node_bounds t.size j node in
      let rs = entries Ready v r.readies shaped.readies node free rec.readies in
      let none = sym (rec.readies j j_low) ∙ free in
      let same = nodes_same 16 _ _ (λ i low. ap (is v) (rs i low)) in record {
        echoed = rec.echoed ∙ sym (from_other_kind Ready j (Some v) ls Send sender refl);
        echoes = λ i low. rec.echoes i low ∙ sym (from_other_kind Ready j (Some v) ls Echo i refl);
        readies = rs;
        readied = ap₂ (λ b o. once b v o) (counts_new Ready v (ready_kernel t me r j v) _ none (ap (holds_kernel t me) (sym same))) rec.readied
            ∙ sym (first_once (ready_now t me) _ ls v refl);
        delivered = ap₂ (λ b o. once b v o) (counts_new Ready v (ready_quorum t me r j v) _ none (ap (holds_quorum t me) (sym same))) rec.delivered
            ∙ sym (first_once (deliver_now t me) _ ls v refl);
      }

  pub heeded_step : (m : Kind) (v : Place) → Shaped t.size r → heeds t.size sender r m j ≡ true → RecordedBy t me sender (record { kind = m; from = j; value = Some v } ∷ ls) (takes t me r m j v).0
  heeded_step m v shaped e =
      let (may, free) = and_parts (node? t.size j && may_say sender m j) (absent (taken sender r m j)) e in
      let (node, says) = and_parts (node? t.size j) (may_say sender m j) may in
      go m node says (absent_none (taken sender r m j) free)
    where
      go : (n : Kind) → node? t.size j ≡ true → may_say sender n j ≡ true → taken sender r n j ≡ None
          → RecordedBy t me sender (record { kind = n; from = j; value = Some v } ∷ ls) (takes t me r n j v).0
      go Send node says free = send_heeded v (eqb-true j sender says) (sym (ap (λ b. cond b r.echoed None) says) ∙ free)
      go Echo node says free = echo_heeded v shaped node free
      go Ready node says free = ready_heeded v shaped node free

  -- a message that is not the first of its kind from its node, or no SEND of the sender
  module _ (o : Option Place) (node : node? t.size j ≡ true) where
    had : (m : Kind) → heeds t.size sender r m j ≡ false → may_say sender m j ≡ true → IsSome (taken sender r m j)
    had m out says =
        ⊎_elim (λ none. absurd (both_ways (heeds t.size sender r m j) out (heeds_from t.size sender j r m node says none))) (λ some. some)
        (cases_none (taken sender r m j))

    -- of node i, where j's is there
    again : (m : Kind) → IsSome (first_from m j ls) → (i : ℕ) → first_from m i ls ≡ first_from m i (record { kind = m; from = j; value = o } ∷ ls)
    again m there i =
        ⊎_elim (λ e. sym (first_had _ _ ls (subst (λ a. IsSome (first_from m a ls)) e there))) (λ ne. sym (from_other_node m j o ls m i ne)) (cases_eq j i)

    not_new : (m : Kind) (b : Bool) → IsSome (first_from m j ls) → (absent (first_from m j ls) && b) ≡ false
    not_new m b (u, e) = and_left (absent (first_from m j ls)) b (ap absent e)

    send_again : heeds t.size sender r Send j ≡ false → first_from Send sender ls ≡ first_from Send sender (record { kind = Send; from = j; value = o } ∷ ls)
    send_again out =
        ⊎_elim
        (λ says. let (u, e) = had Send out says in
        let is : r.echoed ≡ Some u = sym (ap (λ b. cond b r.echoed None) says) ∙ e in
        sym (first_had _ _ ls (u, sym rec.echoed ∙ is)))
        (λ other. sym (from_other_node Send j o ls Send sender (λ e. both_ways (eqb j sender) other (eq-eqb j sender e)))) (cases_Bool (eqb j sender))

    pub ignored_step : (m : Kind) → heeds t.size sender r m j ≡ false → RecordedBy t me sender (record { kind = m; from = j; value = o } ∷ ls) r
    ignored_step Send out = record {
      echoed = rec.echoed ∙ send_again out;
      echoes = λ i low. rec.echoes i low ∙ sym (from_other_kind Send j o ls Echo i refl);
      readies = λ i low. rec.readies i low ∙ sym (from_other_kind Send j o ls Ready i refl);
      readied = rec.readied ∙ sym (first_skip (ready_now t me) _ ls (and_right (absent (first_from Send j ls)) false refl));
      delivered = rec.delivered ∙ sym (first_skip (deliver_now t me) _ ls (and_right (absent (first_from Send j ls)) false refl));
    }
    ignored_step Echo out =
        let (u, e) = had Echo out refl in
        let there : IsSome (first_from Echo j ls) = (u, sym (rec.echoes j (node_bounds t.size j node).0) ∙ e) in record {
          echoed = rec.echoed ∙ sym (from_other_kind Echo j o ls Send sender refl);
          echoes = λ i low. rec.echoes i low ∙ again Echo there i;
          readies = λ i low. rec.readies i low ∙ sym (from_other_kind Echo j o ls Ready i refl);
          readied = rec.readied ∙ sym (first_skip (ready_now t me) _ ls (not_new Echo _ there));
          delivered = rec.delivered ∙ sym (first_skip (deliver_now t me) _ ls (not_new Echo _ there));
        }
    ignored_step Ready out =
        let (u, e) = had Ready out refl in
        let there : IsSome (first_from Ready j ls) = (u, sym (rec.readies j (node_bounds t.size j node).0) ∙ e) in record {
          echoed = rec.echoed ∙ sym (from_other_kind Ready j o ls Send sender refl);
          echoes = λ i low. rec.echoes i low ∙ sym (from_other_kind Ready j o ls Echo i refl);
          readies = λ i low. rec.readies i low ∙ again Ready there i;
          readied = rec.readied ∙ sym (first_skip (ready_now t me) _ ls (not_new Ready _ there));
          delivered = rec.delivered ∙ sym (first_skip (deliver_now t me) _ ls (not_new Ready _ there));
        }
