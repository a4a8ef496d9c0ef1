-- What the records tell of heard is the accepted hands, and heard and waiting together are what was said. Assumes nothing.
use Rattle.std.proofs.Common.{◌≡◌, ℕ, ◌+◌, ◌-◌, ◌*◌, ◌≤◌, Bool, true, false, cond, ◌&&◌, eqb, List, [], ◌∷◌, Some, None, Option, sym, refl, ap, ◌∙◌, ap₂, ⊎_elim, mul_assoc, mul_comm, mul-le-mul_left, mul-add, arith, get_or-set_same}
use Rattle.std.proofs.lemmas.Bool.{eq-eqb, ne_eqb, and_parts, cases_Bool, both_ways}
use Rattle.sets.specs.Sets.{node?, has}
use Rattle.sets.proofs.Rests.{has_none}
use Rattle.protocol.specs.Hearing.{absent, taken, hear}
use Rattle.protocol.specs.Fresh.{fresh_slot}
use Rattle.protocol.specs.declared.message.Place.{Place}
use Rattle.protocol.specs.declared.message.Kind.{Kind}
use Rattle.protocol.specs.declared.message.Kind.TheVariants.{Send, Echo, Ready}
use Rattle.protocol.specs.declared.record.Record.{Record}
use Rattle.protocol.specs.declared.slot.Slot.{Slot}
use Rattle.broadcast.specs.Slots.{Setting, correct?, faulty?, no_record, record_at, said, waiting}
use Rattle.broadcast.specs.Events.{Event, propose, forge, hand, hears, hears_waiting, step, run}
use Rattle.broadcast.specs.Counts.{any, one, sum, count, between, each_kind, correct_count, proposed_count, echoed_count, readied_count, heard_count, waiting_count, accepted, handed}
use Rattle.broadcast.specs.Claims.{Assumed, Quiet, Balanced, SlotIsBalanced}
use Rattle.broadcast.proofs.Places.{Kept, none_not_some}
use Rattle.broadcast.proofs.Entries.{node_bounds}
use Rattle.broadcast.proofs.Hearing.{grew, heard, taken_kept, taken_new, taken_now}
use Rattle.broadcast.proofs.Waiting.{correct_node, correct_bounds, faulty_not_correct, waiting_parts, waiting_heeded}
use Rattle.broadcast.proofs.Invariant.{Inv, record_each, fresh_taken, fresh_at, inv_fresh, step_keeps, run_keeps}
use Rattle.broadcast.proofs.Sums.{sum_same, sum_zero, sum_more, sum_add, sum_times, sum_le, sum_none}

same_any : (o p : Option Place) → Kept o p → ((u : Place) → p ≡ Some u → o ≡ Some u) → any p ≡ any o
same_any None None k b = refl
same_any None (Some u) k b = absurd (none_not_some (b u refl))
same_any (Some u) p k b = ap any (k u refl)

and_none : (b : Bool) → (b && false) ≡ false
and_none true = refl
and_none false = refl

-- one kind more by d
kinds_more : (m : Kind) (d : ℕ) (f g : Kind → ℕ) → g m ≡ f m + d → ((n : Kind) → (n ≡ m → ⊥) → g n ≡ f n) → each_kind g ≡ each_kind f + d
kinds_more Send d f g here there =
    let a = there Echo (λ e. let z : ◌≡◌ {A = ℕ} 0 1 = cc in omega arith) in
    let b = there Ready (λ e. let z : ◌≡◌ {A = ℕ} 0 1 = cc in omega arith) in
    omega arith
kinds_more Echo d f g here there =
    let a = there Send (λ e. let z : ◌≡◌ {A = ℕ} 0 1 = cc in omega arith) in
    let b = there Ready (λ e. let z : ◌≡◌ {A = ℕ} 0 1 = cc in omega arith) in
    omega arith
kinds_more Ready d f g here there =
    let a = there Send (λ e. let z : ◌≡◌ {A = ℕ} 0 1 = cc in omega arith) in
    let b = there Echo (λ e. let z : ◌≡◌ {A = ℕ} 0 1 = cc in omega arith) in
    omega arith

bound_from : (c x a : ℕ) → x ≡ c * a → a ≤ 1 + c + c → x ≤ c + 2 * c * c
bound_from c x a e le = omega (arith, mul-le-mul_left c le, mul-add c (1 + c) c, mul-add c 1 c, mul_assoc 2 c c)

module _ (w : Setting) where
  abbrev size : ℕ
  size = w.trust.size

  -- 1 where node k took a message of that kind from i, both correct
  abbrev cell : Slot → Kind → ℕ → ℕ → ℕ
  cell s m i k = one (correct? w i && correct? w k && any (taken w.sender (record_at s k) m i))

  module _ {live : ℕ} (s : Slot) (inv : Inv w live s) where
    -- a correct node k hears a message from j, which counts d
    module _ (m : Kind) (j k : ℕ) (v : Place) (d : ℕ) (j_node : node? size j ≡ true) (k_correct : correct? w k ≡ true) where
      abbrev x : Record
      x = record_at s k

      abbrev y : Record
      y = (hear w.trust k w.sender x m j v).0

      abbrev next : Slot
      next = hears w m j k v s

      unchanged : (n : Kind) (a b : ℕ) → 1 ≤ a → 1 ≤ b → (n ≡ m → a ≡ j → b ≡ k → ⊥) → cell next n a b ≡ cell s n a b
      unchanged n a b a_low b_low =
          let (low, high) = correct_bounds w k k_correct in
          let way = heard w.trust w.sender k j v x m in
          record_each (λ c z. (n ≡ m → a ≡ j → c ≡ k → ⊥) → one (correct? w a && correct? w c && any (taken w.sender z n a)) ≡ cell s n a c) s k y low (omega (arith, inv.long))
          (λ ne. ap (λ c. one (correct? w a && correct? w k && c))
          (same_any (taken w.sender x n a) (taken w.sender y n a) (taken_kept w.sender (grew (inv.shaped k k_correct) way) n a)
          (λ u e. ⊎_elim (λ was. was) (λ h. absurd (ne h.0 h.1 refl)) (taken_new (inv.shaped k k_correct) way n a u a_low e))))
          b b_low (λ _. refl)

      heard_more : cell next m j k ≡ cell s m j k + d → heard_count w next ≡ heard_count w s + d
      heard_more here =
          let (j_low, j_high) = node_bounds size j j_node in
          let (k_low, k_high) = correct_bounds w k k_correct in
          kinds_more m d (λ n. sum size (λ a. sum size (cell s n a))) (λ n. sum size (λ a. sum size (cell next n a)))
          (sum_more size j d (λ a. sum size (cell s m a)) (λ a. sum size (cell next m a)) j_low j_high
          (sum_more size k d (cell s m j) (cell next m j) k_low k_high here (λ b b_low _ ne. unchanged m j b j_low b_low (λ _ _ e. ne e)))
          (λ a a_low _ ne. sum_same size (cell s m a) (cell next m a) (λ b b_low _. unchanged m a b a_low b_low (λ _ e _. ne e))))
          (λ n ne. sum_same size (λ a. sum size (cell s n a)) (λ a. sum size (cell next n a))
          (λ a a_low _. sum_same size (cell s n a) (cell next n a) (λ b b_low _. unchanged n a b a_low b_low (λ e _ _. ne e))))

    -- a faulty node's message counts nothing
    pub heard_forged : (m : Kind) (j k : ℕ) (v : Place) → faulty? w j ≡ true → correct? w k ≡ true → heard_count w (hears w m j k v s) ≡ heard_count w s
    heard_forged m j k v j_faulty k_correct =
        let not_correct : correct? w j ≡ false = ⊎_elim (λ c. absurd (faulty_not_correct w j j_faulty c)) (λ c. c) (cases_Bool (correct? w j)) in
        let none : (t : Slot) → cell t m j k ≡ 0 = λ t. ap (λ b. one (b && correct? w k && any (taken w.sender (record_at t k) m j))) not_correct in
        heard_more m j k v 0 (and_parts (node? size j) (has w.faulty j) j_faulty).0 k_correct (omega (arith, none s, none (hears w m j k v s))) ∙ omega arith

    -- a message that waits counts one
    pub heard_handed : (m : Kind) (i k : ℕ) (v : Place) → waiting w s m i k ≡ Some v → heard_count w (hears w m i k v s) ≡ heard_count w s + 1
    heard_handed m i k v e =
        let (i_correct, k_correct, free, _) = waiting_parts w s m i k v e in
        let (low, high) = correct_bounds w k k_correct in
        let node = correct_node w i i_correct in
        let y = (hear w.trust k w.sender (record_at s k) m i v).0 in
        let at_k : record_at (hears w m i k v s) k ≡ y = get_or-set_same s.records (k - 1) y no_record (omega (arith, inv.long)) in
        let both : (t : Slot) (o : Option Place) → taken w.sender (record_at t k) m i ≡ o → cell t m i k ≡ one (any o) =
        λ t o is. ap₂ (λ a b. one (a && b && any (taken w.sender (record_at t k) m i))) i_correct k_correct ∙ ap (λ p. one (any p)) is in
        let now = ap (λ z. taken w.sender z m i) at_k ∙ taken_now w.trust w.sender k i v (record_at s k) (inv.shaped k k_correct) m (waiting_heeded w s m i k v e) in
        heard_more m i k v 1 node k_correct (both (hears w m i k v s) (Some v) now ∙ ap (λ c. c + 1) (sym (both s None free)))

    pub heard_step : (e : Event) → heard_count w (step w s e) ≡ heard_count w s + accepted w s e
    heard_step (propose v) = omega arith
    heard_step (forge m j k v) = go (faulty? w j && correct? w k) refl
      where
        go : (b : Bool) → (faulty? w j && correct? w k) ≡ b → heard_count w (cond b (hears w m j k v s) s) ≡ heard_count w s + 0
        go true e = let (j_faulty, k_correct) = and_parts (faulty? w j) (correct? w k) e in heard_forged m j k v j_faulty k_correct ∙ omega arith
        go false e = omega arith
    heard_step (hand m i k) = go (waiting w s m i k) refl
      where
        go : (o : Option Place) → waiting w s m i k ≡ o → heard_count w (hears_waiting w m i k s o) ≡ heard_count w s + one (any o)
        go None e = omega arith
        go (Some v) e = heard_handed m i k v e

    -- at one place: taken or waiting is said
    at_place : (a b : Bool) (o p : Option Place) → (a ≡ true → b ≡ true → Kept o p)
        → one (a && b && any o) + one (a && b && any (cond (a && b && absent o) p None)) ≡ one (a && any p) * one b
    at_place false b o p k = omega arith
    at_place true false o p k = omega arith
    at_place true true None None k = refl
    at_place true true None (Some u) k = refl
    at_place true true (Some u) p k = ap (λ q. one (any q) * 1) (sym (k refl refl u refl))

    abbrev says : Kind → ℕ
    says m = count size (λ i. correct? w i && any (said w s m i))

    of_kind : (m : Kind) → between w (λ i k. any (taken w.sender (record_at s k) m i)) + between w (λ i k. any (waiting w s m i k)) ≡ correct_count w * says m
    of_kind m =
        sym (sum_add size (λ i. sum size (cell s m i)) (λ i. sum size (waits i)))
        ∙ sum_same size (λ i. correct_count w * one (correct? w i && any (said w s m i))) (λ i. sum size (cell s m i) + sum size (waits i)) (λ i _ _. from i)
        ∙ sum_times size (correct_count w) (λ i. one (correct? w i && any (said w s m i)))
      where
        waits : ℕ → ℕ → ℕ
        waits i k = one (correct? w i && correct? w k && any (waiting w s m i k))

        from : (i : ℕ) → sum size (cell s m i) + sum size (waits i) ≡ correct_count w * one (correct? w i && any (said w s m i))
        from i =
            let c = one (correct? w i && any (said w s m i)) in
            sym (sum_add size (cell s m i) (waits i))
            ∙ sum_same size (λ k. c * one (correct? w k)) (λ k. cell s m i k + waits i k)
            (λ k _ _. at_place (correct? w i) (correct? w k) (taken w.sender (record_at s k) m i) (said w s m i) (λ a b u. inv.told m i k u a b))
            ∙ sum_times size c (λ k. one (correct? w k)) ∙ mul_comm c (correct_count w)

    -- the sender's SENDs
    proposal : says Send ≡ proposed_count s
    proposal = go s.proposal inv.proposer
      where
        go : (o : Option Place) → ((u : Place) → o ≡ Some u → correct? w w.sender ≡ true)
            → count size (λ i. correct? w i && any (cond (eqb i w.sender) o None)) ≡ one (any o)
        go None h = sum_zero size _ (λ i _ _. nothing (correct? w i) (eqb i w.sender))
          where
            nothing : (a b : Bool) → one (a && any (cond b None None)) ≡ 0
            nothing false b = refl
            nothing true true = refl
            nothing true false = refl
        go (Some u) h =
            let c = h u refl in
            let (low, high) = correct_bounds w w.sender c in
            sum_more size w.sender 1 (λ _. 0) (λ i. one (correct? w i && any (cond (eqb i w.sender) (Some u) None))) low high
            (ap₂ (λ a b. one (a && any (cond b (Some u) None))) c (eq-eqb w.sender w.sender refl))
            (λ i _ _ ne. ap (λ b. one (correct? w i && any (cond b (Some u) None))) (ne_eqb i w.sender ne) ∙ ap one (and_none (correct? w i)))
            ∙ ap (λ z. z + 1) (sum_zero size (λ _. 0) (λ _ _ _. refl))

    one_le : (a b : Bool) → one (a && b) ≤ one a
    one_le false b = omega arith
    one_le true true = omega arith
    one_le true false = omega arith

    some_le : (o : Option Place) → one (any o) ≤ 1
    some_le None = omega arith
    some_le (Some u) = omega arith

    pub balanced : Balanced w s
    balanced =
        let c = correct_count w in
        let all = proposed_count s + echoed_count w s + readied_count w s in
        let whole : heard_count w s + waiting_count w s ≡ c * all = omega (
          arith,
          of_kind Send,
          of_kind Echo,
          of_kind Ready,
          ap (λ p. c * p) proposal,
          mul-add c (proposed_count s + echoed_count w s) (readied_count w s),
          mul-add c (proposed_count s) (echoed_count w s),
        ) in
        let few : all ≤ 1 + c + c = omega (
          arith,
          some_le s.proposal,
          sum_le size (λ k. one (correct? w k && any (record_at s k).echoed)) (λ k. one (correct? w k)) (λ k. one_le (correct? w k) _),
          sum_le size (λ k. one (correct? w k && any (record_at s k).readied)) (λ k. one (correct? w k)) (λ k. one_le (correct? w k) _),
        ) in
        record {
          balance = whole;
          bound = bound_from c (heard_count w s + waiting_count w s) all whole few;
        }

  -- nothing is heard in a fresh slot
  pub heard_fresh : size ≤ 16 → heard_count w fresh_slot ≡ 0
  heard_fresh few = let a = none Send in let b = none Echo in let c = none Ready in omega arith
    where
      none : (m : Kind) → between w (λ i k. any (taken w.sender (record_at fresh_slot k) m i)) ≡ 0
      none m = sum_zero size _ (λ i _ _. sum_zero size _ (λ k low high.
          ap (λ o. one (correct? w i && correct? w k && any o)) (ap (λ x. taken w.sender x m i) (fresh_at k low (omega arith)) ∙ fresh_taken w.sender m i)
          ∙ ap one (and_none (correct? w i && correct? w k))))

  -- no node is live
  nobody : Assumed w 0 0
  nobody = record {
    safe_correct = λ i e. absurd (both_ways (has 0 i) (has_none i) e);
    shared = λ i j a b e. absurd (both_ways (has 0 i) (has_none i) e);
    live_safe = λ i e. e;
    live_quorum = λ i e. absurd (both_ways (has 0 i) (has_none i) e);
  }

  heard_run : (es : List Event) (s : Slot) → Inv w 0 s → heard_count w (run w s es) ≡ heard_count w s + handed w s es
  heard_run [] s inv = omega arith
  heard_run (e ∷ es) s inv = omega (arith, heard_step s inv e, heard_run es (step w s e) (step_keeps w 0 0 nobody s e inv))

  -- nothing waits where the count says so
  pub quiet_if_none_wait : (s : Slot) → waiting_count w s ≡ 0 → Quiet w s
  quiet_if_none_wait s e m i k = go (waiting w s m i k) refl
    where
      kind : (n : Kind) (f : Kind → ℕ) → each_kind f ≡ 0 → f n ≡ 0
      kind Send f z = omega arith
      kind Echo f z = omega arith
      kind Ready f z = omega arith

      go : (o : Option Place) → waiting w s m i k ≡ o → o ≡ None
      go None h = refl
      go (Some v) h =
          let (i_correct, k_correct, _, _) = waiting_parts w s m i k v h in
          let (i_low, i_high) = correct_bounds w i i_correct in
          let (k_low, k_high) = correct_bounds w k k_correct in
          let of_m = kind m (λ n. between w (λ a b. any (waiting w s n a b))) e in
          let at_i = sum_none size (λ a. count size (λ b. correct? w a && correct? w b && any (waiting w s m a b))) of_m i i_low i_high in
          let at_k = sum_none size (λ b. one (correct? w i && correct? w b && any (waiting w s m i b))) at_i k k_low k_high in
          let z : ◌≡◌ {A = ℕ} 1 0 =
          sym (ap₂ (λ a b. one (a && b && any (waiting w s m i k))) i_correct k_correct ∙ ap (λ o. one (any o)) h) ∙ at_k in
          absurd (omega arith)

pub slot_is_balanced : SlotIsBalanced
slot_is_balanced w few es =
    let fresh = inv_fresh w 0 0 (nobody w) few in
    let s = run w fresh_slot es in
    (balanced w s (run_keeps w 0 0 (nobody w) es fresh_slot fresh), omega (arith, heard_run w es fresh_slot fresh, heard_fresh w few))
