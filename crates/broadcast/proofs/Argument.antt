-- The argument of the broadcast: from what every event keeps to the claims. Assumes nothing.
use Rattle.std.proofs.Common.{◌≡◌, ℕ, ◌^◌, ◌<◌, true, cond, ◌&&◌, eqb, Some, None, Option, sym, refl, ap, ◌∙◌, ⊎_elim}
use Rattle.std.proofs.lemmas.Bool.{eq-eqb, and_from}
use Rattle.sets.specs.Sets.{has, nodes_with}
use Rattle.trust.specs.Trust.{holds_quorum, holds_kernel}
use Rattle.protocol.specs.Hearing.{absent, is, recorded_with, taken}
use Rattle.protocol.specs.Fresh.{fresh_slot}
use Rattle.protocol.specs.declared.message.Place.{Place}
use Rattle.protocol.specs.declared.message.Kind.{Kind}
use Rattle.protocol.specs.declared.message.Kind.TheVariants.{Send, Echo, Ready}
use Rattle.protocol.specs.declared.slot.Slot.{Slot}
use Rattle.broadcast.specs.Slots.{Setting, correct?, record_at, said, waiting}
use Rattle.broadcast.specs.Events.{run}
use Rattle.broadcast.specs.Claims.{Assumed, Delivered, Quiet, Proposed, ReadiedByEchoes, Reliable, SlotIsReliable}
use Rattle.broadcast.proofs.Places.{none_not_some, some_same, cases_none}
use Rattle.broadcast.proofs.Entries.{in_set, set_has, node_up, recorded_lt}
use Rattle.broadcast.proofs.Holding.{quorum_grows, kernel_from}
use Rattle.broadcast.proofs.Waiting.{correct_node}
use Rattle.broadcast.proofs.Invariant.{Inv, EchoedFor, live_correct, inv_fresh, run_keeps}

module _ (w : Setting) (safe live : ℕ) (sides : Assumed w safe live) (s : Slot) (inv : Inv w live s) where
  -- the nodes from which node k took v
  abbrev sayers : Kind → ℕ → Place → ℕ
  sayers m k v = nodes_with 16 (λ i. is v (taken w.sender (record_at s k) m i))

  -- they hold a quorum of it
  abbrev Backed : Kind → ℕ → Place → Type 0
  Backed m k v = holds_quorum w.trust k (sayers m k v) ≡ true

  echoes_lt : (k : ℕ) (v : Place) → correct? w k ≡ true → sayers Echo k v < 2 ^ w.trust.size
  echoes_lt k v c = recorded_lt w.trust.size (record_at s k).echoes v (inv.shaped k c).echoes

  readies_lt : (k : ℕ) (v : Place) → correct? w k ≡ true → sayers Ready k v < 2 ^ w.trust.size
  readies_lt k v c = recorded_lt w.trust.size (record_at s k).readies v (inv.shaped k c).readies

  -- a correct one among them said that value
  said_by : (m : Kind) (i c : ℕ) (v : Place) → has safe i ≡ true → correct? w c ≡ true → has (sayers m i v) c ≡ true → said w s m c ≡ Some v
  said_by m i c v is_safe c_correct says =
      inv.told m c i v c_correct (sides.safe_correct i is_safe) (in_set (taken w.sender (record_at s i) m) v c says).1

  backed_by : (m : Kind) (i j : ℕ) (v : Place) (q : ℕ) → has safe i ≡ true → has safe j ≡ true → Backed m i v → holds_quorum w.trust j q ≡ true
      → (c : ℕ) × (correct? w c ≡ true) × (has q c ≡ true) × (said w s m c ≡ Some v)
  backed_by m i j v q i_safe j_safe h e =
      let (c, c_correct, says, member) = sides.shared i j (sayers m i v) q i_safe j_safe h e in
      (c, c_correct, member, said_by m i c v i_safe c_correct says)

  one_value : (m : Kind) (i j : ℕ) (u v : Place) → has safe i ≡ true → has safe j ≡ true → Backed m i u → Backed m j v → u ≡ v
  one_value m i j u v i_safe j_safe h e =
      let (c, c_correct, says, said_u) = backed_by m i j u (sayers m j v) i_safe j_safe h e in
      some_same said_u (said_by m j c v j_safe c_correct says)

  ready_backed : (i : ℕ) (v : Place) → has safe i ≡ true → Delivered s i v → Backed Ready i v
  ready_backed i v is_safe d = inv.delivers i (sides.safe_correct i is_safe) v d

  agrees : (i j : ℕ) (u v : Place) → has safe i ≡ true → has safe j ≡ true → Delivered s i u → Delivered s j v → u ≡ v
  agrees i j u v i_safe j_safe d e = one_value Ready i j u v i_safe j_safe (ready_backed i u i_safe d) (ready_backed j v j_safe e)

  live_agree : (u v : Place) → EchoedFor w live s u → EchoedFor w live s v → u ≡ v
  live_agree u v (p, p_live, h) (q, q_live, e) = one_value Echo p q u v (sides.live_safe p p_live) (sides.live_safe q q_live) h e

  readied_by_echoes : (v : Place) → EchoedFor w live s v → (p : ℕ) × (has live p ≡ true) × ReadiedByEchoes w s p v
  readied_by_echoes v (p, is_live, h) =
      let (u, e) = (inv.settles p is_live).by_echoes v h in
      (p, is_live, (e ∙ ap Some (live_agree u v (inv.origin p u is_live e) (p, is_live, h)), h))

  -- READYs that hold a quorum of a safe node go back to ECHOs at a live node
  ready_echoed : (g i : ℕ) (v : Place) → has live g ≡ true → has safe i ≡ true → Backed Ready i v → EchoedFor w live s v
  ready_echoed g i v is_live is_safe h =
      let (c, _, c_live, e) = backed_by Ready i g v live is_safe (sides.live_safe g is_live) h (sides.live_quorum g is_live) in
      inv.origin c v c_live e

  -- what the sender sent, where it is the sender
  sender_is : {o : Option Place} → cond (eqb w.sender w.sender) o None ≡ o
  sender_is {o} = ap (λ b. cond b o None) (eq-eqb w.sender w.sender refl)

  echoed_proposed : (v : Place) → correct? w w.sender ≡ true → EchoedFor w live s v → s.proposal ≡ Some v
  echoed_proposed v sender_correct (p, is_live, h) =
      let is_safe = sides.live_safe p is_live in
      let (c, c_correct, _, e) = backed_by Echo p p v (sayers Echo p v) is_safe is_safe h h in
      sym sender_is ∙ inv.told Send w.sender c v sender_correct c_correct (sender_is ∙ e)

  module _ (quiet : Quiet w s) where
    arrives : (m : Kind) (i k : ℕ) (v : Place) → correct? w i ≡ true → correct? w k ≡ true → said w s m i ≡ Some v → taken w.sender (record_at s k) m i ≡ Some v
    arrives m i k v ci ck e =
        ⊎_elim (λ h. absurd (none_not_some (sym (quiet m i k) ∙ waits h)))
        (λ h. h.1 ∙ ap Some (some_same (inv.told m i k h.0 ci ck h.1) e)) (cases_none (taken w.sender (record_at s k) m i))
      where
        waits : taken w.sender (record_at s k) m i ≡ None → waiting w s m i k ≡ Some v
        waits h =
            ap (λ b. cond b (said w s m i) None)
            (and_from (correct? w i && correct? w k) (absent (taken w.sender (record_at s k) m i)) (and_from (correct? w i) (correct? w k) ci ck) (ap absent h)) ∙ e

    arrived : (m : Kind) (i k : ℕ) (v : Place) → correct? w i ≡ true → correct? w k ≡ true → said w s m i ≡ Some v → has (sayers m k v) i ≡ true
    arrived m i k v ci ck e =
        set_has (taken w.sender (record_at s k) m) v i (node_up w.trust.size 16 i inv.few (correct_node w i ci)) (arrives m i k v ci ck e)

    -- what each live node said, each live node took from a quorum
    live_backed : (m : Kind) (v : Place) → ((j : ℕ) → has live j ≡ true → said w s m j ≡ Some v) → (g : ℕ) → has live g ≡ true → sayers m g v < 2 ^ w.trust.size → Backed m g v
    live_backed m v all g is_live low =
        let c = live_correct w safe live sides in
        quorum_grows w.trust g live (sayers m g v) low (λ j l. arrived m j g v (c j l) (c g is_live) (all j l)) (sides.live_quorum g is_live)

    delivers_all : (v : Place) → ((g : ℕ) → has live g ≡ true → (record_at s g).readied ≡ Some v) → (g : ℕ) → has live g ≡ true → Delivered s g v
    delivers_all v all g is_live =
        let is_safe = sides.live_safe g is_live in
        let h = live_backed Ready v all g is_live (readies_lt g v (sides.safe_correct g is_safe)) in
        let (u, e) = (inv.settles g is_live).by_quorum v h in
        e ∙ ap Some (one_value Ready g g u v is_safe is_safe (ready_backed g u is_safe e) h)

    readied_if_backed : (i : ℕ) (v : Place) → has safe i ≡ true → Backed Ready i v → (g : ℕ) → has live g ≡ true → (record_at s g).readied ≡ Some v
    readied_if_backed i v i_safe h g is_live =
        let (u, e) = (inv.settles g is_live).by_kernel v kernel in
        e ∙ ap Some (live_agree u v (inv.origin g u is_live e) (ready_echoed g i v is_live i_safe h))
      where
        g_correct : correct? w g ≡ true
        g_correct = live_correct w safe live sides g is_live

        kernel : holds_kernel w.trust g (recorded_with (record_at s g).readies v) ≡ true
        kernel =
            kernel_from w.trust g (sayers Ready g v) (correct_node w g g_correct) (readies_lt g v g_correct)
            (λ q is_quorum.
            let (c, c_correct, member, e) = backed_by Ready i g v q i_safe (sides.live_safe g is_live) h is_quorum in
            (c, arrived Ready c g v c_correct g_correct e, member))

    readied_if_proposed : (v : Place) → Proposed w s v → (g : ℕ) → has live g ≡ true → (record_at s g).readied ≡ Some v
    readied_if_proposed v (sender_correct, e) g is_live =
        let (u, r) = (inv.settles g is_live).by_echoes v (live_backed Echo v echoed g is_live (echoes_lt g v (live_correct w safe live sides g is_live))) in
        r ∙ ap Some (some_same (echoed_proposed u sender_correct (inv.origin g u is_live r)) e)
      where
        echoed : (j : ℕ) → has live j ≡ true → (record_at s j).echoed ≡ Some v
        echoed j l = sym sender_is ∙ arrives Send w.sender j v sender_correct (live_correct w safe live sides j l) (sender_is ∙ e)

  pub reliable : Reliable w safe live s
  reliable = record {
    agreement = agrees;
    integrity = λ g i v is_live is_safe sender_correct d. echoed_proposed v sender_correct (ready_echoed g i v is_live is_safe (ready_backed i v is_safe d));
    totality = λ g v quiet from is_live. delivers_all quiet v
        (⊎_elim (λ (i, is_safe, d). readied_if_backed quiet i v is_safe (ready_backed i v is_safe d)) (readied_if_proposed quiet v) from) g is_live;
    origin = λ g v is_live e. readied_by_echoes v (inv.origin g v is_live e);
  }

pub slot_is_reliable : SlotIsReliable
slot_is_reliable w safe live few sides es = reliable w safe live sides (run w fresh_slot es) (run_keeps w safe live sides es fresh_slot (inv_fresh w safe live sides few))
