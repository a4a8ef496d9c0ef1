-- The promise, from what holds of every state that calls brought about. Assumes nothing.
use Rattle.std.proofs.Common.{◌≡◌, ℕ, true, false, ◌⊎◌, Some, None, Option, sym, refl, ap, ◌∙◌, inl, inr, ⊎_elim}
use Rattle.std.proofs.lemmas.Bool.{cases_Bool}
use Rattle.trust.specs.Sorting.{wise_mask}
use Rattle.protocol.specs.Fresh.{fresh_slot}
use Rattle.protocol.specs.declared.message.Place.{Place}
use Rattle.broadcast.specs.Slots.{record_at}
use Rattle.broadcast.specs.Claims.{Reliable, Balanced}
use Rattle.broadcast.proofs.Places.{none_not_some, cases_none}
use Rattle.broadcast.proofs.Argument.{reliable}
use Rattle.broadcast.proofs.Counting.{balanced}
use Rattle.runs.specs.Values.{Values}
use Rattle.runs.specs.Calls.{World, State, sender, setting, correct, no_slot, slot_at, slot?}
use Rattle.runs.specs.Readings.{meant_at, held}
use Rattle.runs.specs.Promise.{Wise, InGuild, History, offered, QuietIn, AllQuiet, Assured, Kept}
use Rattle.runs.proofs.Refusing.{some_not_none}
use Rattle.runs.proofs.Rows.{Means}
use Rattle.runs.proofs.Standing.{OfSlot, replicate_each, fresh_slot_each, no_slot_each}
use Rattle.runs.proofs.Invariants.{Opens, opens, fresh_board, guild, assumed, Reached, reached}
use Rattle.runs.proofs.Tallies.{tally_same, counting_same, counts_once}

-- nothing is delivered in a fresh slot
fresh_delivers : (s k : ℕ) → (record_at (slot_at fresh_board s) k).delivered ≡ None
fresh_delivers s k =
    let nothing : OfSlot (λ _. ⊥) (slot_at fresh_board s) =
    replicate_each (OfSlot (λ _. ⊥)) 16 fresh_slot s no_slot (fresh_slot_each _) (no_slot_each _) in
    ⊎_elim (λ e. e) (λ (p, e). absurd ((nothing.records _).delivered p e)) (cases_none (record_at (slot_at fresh_board s) k).delivered)

module _ {V : Type 0} (values : Values V) (w : World) (h : History V) (x : State V) (o : Opens w) (r : Reached values w h x) where
  -- the place at which a meaning is held or offered
  meant_parts : (q : Option Place) (m : values.Meaning) → meant_at values x.row q ≡ Some m → (p : Place) × (q ≡ Some p) × Means values x.row p m
  meant_parts None m e = absurd (some_not_none (sym e))
  meant_parts (Some p) m e = (p, refl, e)

  abbrev delivered : ℕ → ℕ → Option Place
  delivered k s = (record_at (slot_at x.board s) k).delivered

  held_parts : (s k : ℕ) (m : values.Meaning) → held values x k s ≡ Some m → (p : Place) × (delivered k s ≡ Some p) × Means values x.row p m
  held_parts s k m e = meant_parts (delivered k s) m e

  idle_delivers : (s k : ℕ) → slot? w s ≡ false → delivered k s ≡ None
  idle_delivers s k out = ap (λ z. (record_at z k).delivered) (r.idle s out) ∙ fresh_delivers s k

  -- only a slot below the slot count has something held
  held_in : (s k : ℕ) (m : values.Meaning) → held values x k s ≡ Some m → slot? w s ≡ true
  held_in s k m e =
      let (p, d, _) = held_parts s k m e in
      ⊎_elim (λ in_slots. in_slots) (λ out. absurd (none_not_some (sym (idle_delivers s k out) ∙ d))) (cases_Bool (slot? w s))

  safe : (s : ℕ) → slot? w s ≡ true → Reliable (setting w s) (wise_mask w.trust w.faulty) (guild w) (slot_at x.board s)
  safe s in_slots = reliable (setting w s) _ (guild w) (assumed w o s) (slot_at x.board s) (r.kept s in_slots)

  agreement : (s i j : ℕ) (m n : values.Meaning) → Wise w i → Wise w j → held values x i s ≡ Some m → held values x j s ≡ Some n → m ≡ n
  agreement s i j m n i_wise j_wise e f =
      let (p, p_at, p_means) = held_parts s i m e in
      let (q, q_at, q_means) = held_parts s j n f in
      let same = (safe s (held_in s i m e)).agreement i j p q i_wise j_wise p_at q_at in
      let one : ◌≡◌ {A = Option values.Meaning} (Some m) (Some n) = sym p_means ∙ ap (λ z. meant_at values x.row (Some z)) same ∙ q_means in
      cc

  integrity : (s g i : ℕ) (m : values.Meaning) → InGuild w g → correct w (sender w s) ≡ true → Wise w i → held values x i s ≡ Some m → offered values x s ≡ Some m
  integrity s g i m live sends i_wise e =
      let (p, p_at, means) = held_parts s i m e in
      ap (meant_at values x.row) ((safe s (held_in s i m e)).integrity g i p live i_wise sends p_at) ∙ means

  abbrev Source : ℕ → values.Meaning → Type 0
  Source s m = ((i : ℕ) × Wise w i × (held values x i s ≡ Some m)) ⊎ ((correct w (sender w s) ≡ true) × (offered values x s ≡ Some m))

  totality : (s g : ℕ) (m : values.Meaning) → slot? w s ≡ true → QuietIn w x s → Source s m → InGuild w g → held values x g s ≡ Some m
  totality s g m in_slots quiet (inl (i, wise, e)) live =
      let (p, p_at, means) = held_parts s i m e in
      ap (meant_at values x.row) ((safe s in_slots).totality g p quiet (inl (i, wise, p_at)) live) ∙ means
  totality s g m in_slots quiet (inr (sends, e)) live =
      let (p, p_at, means) = meant_parts (slot_at x.board s).proposal m e in
      ap (meant_at values x.row) ((safe s in_slots).totality g p quiet (inr (sends, p_at)) live) ∙ means

  -- where nothing waits, guild nodes deliver the same
  passed_on : (s i j : ℕ) (p : Place) → slot? w s ≡ true → QuietIn w x s → InGuild w i → InGuild w j → delivered i s ≡ Some p → delivered j s ≡ Some p
  passed_on s i j p in_slots quiet i_live j_live e = (safe s in_slots).totality j p quiet (inl (i, (assumed w o s).live_safe i i_live, e)) j_live

  same_delivered : AllQuiet w x → (i j : ℕ) → InGuild w i → InGuild w j → (s : ℕ) → delivered i s ≡ delivered j s
  same_delivered quiet i j i_live j_live s =
      ⊎_elim
      (λ in_slots. ⊎_elim
      (λ none. ⊎_elim (λ none'. none ∙ sym none') (λ (p, e). passed_on s j i p in_slots (quiet s in_slots) j_live i_live e ∙ sym e) (cases_none (delivered j s)))
      (λ (p, e). e ∙ sym (passed_on s i j p in_slots (quiet s in_slots) i_live j_live e)) (cases_none (delivered i s)))
      (λ out. idle_delivers s i out ∙ sym (idle_delivers s j out)) (cases_Bool (slot? w s))

  same_held : AllQuiet w x → (i j : ℕ) → InGuild w i → InGuild w j → (s : ℕ) → held values x i s ≡ held values x j s
  same_held quiet i j i_live j_live s = ap (meant_at values x.row) (same_delivered quiet i j i_live j_live s)

  even : (s : ℕ) → slot? w s ≡ true → Balanced (setting w s) (slot_at x.board s)
  even s in_slots = balanced (setting w s) (slot_at x.board s) (r.kept s in_slots)

  assured : Assured values w h x
  assured = record {
    agreement = agreement;
    integrity = integrity;
    totality = totality;
    one_tally = λ quiet i j account i_live j_live. tally_same values x i j (same_held quiet i j i_live j_live) w account;
    one_count = λ quiet s i m i_live e.
        let (n, counts) = counts_once values x i s m e in
        (n, λ q j j_live. counting_same values x j i (same_held quiet j i j_live i_live) q (values.claim m) ∙ counts q);
    heard = r.heard;
    balance = λ s in_slots. (even s in_slots).balance;
    bound = λ s in_slots. (even s in_slots).bound;
  }

pub kept : {V : Type 0} (values : Values V) → Kept values
kept values w h x came = assured values w h x (opens values w came) (reached values w came)
