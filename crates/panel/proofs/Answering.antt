-- What a call's code did, as the statement has it: the refusal by what is known, the state left as it was, a value entered.
use Rattle.std.proofs.Common.{◌≡◌, ℕ, ◌+◌, ◌<◌, ◌≤◌, Bool, true, false, cond, List, [], ◌∷◌, ◌++◌, length, take, drop, set, Some, None, Option, sym, refl, ap, ◌∙◌, subst, ap₂, arith, length-set, Err}
use Rattle.std.proofs.lemmas.List.{take_all, take_more_set, length_push, drop-set-lt}
use Rattle.std.proofs.lemmas.Bool.{leb-false}
use Rattle.std.proofs.lemmas.Result.{err_from_is_err_and}
use Rattle.std.specs.Result.{IsErrAnd}
use Rattle.trust.specs.declared.refusal.Refusal.{Refusal}
use Rattle.trust.specs.Refusals.{first_of}
use Rattle.trust.specs.Trust.{Trust}
use Rattle.protocol.specs.Hearing.{absent}
use Rattle.protocol.specs.declared.message.Place.{Place}
use Rattle.protocol.specs.declared.slot.Slot.{Slot}
use Rattle.runs.specs.declared.call.Call.{Call}
use Rattle.runs.specs.declared.call.Call.TheVariants.{Hand}
use Rattle.runs.specs.Values.{Values}
use Rattle.runs.specs.Calls.{known_in, roll_full, entered, handed_on, answer, Answer}
use Rattle.runs.specs.Promise.{CameAbout}
use Rattle.runs.specs.Promise.CameAbout.{called}
use Rattle.panel.specs.declared.panel.Panel.{Panel}
use Rattle.panel.proofs.Refusing.{holds}
use Rattle.panel.specs.Views.{world_of, state_of, Carries, Does, Hands}

-- the used places of a roll that is long enough are the row, so a value is known among them as in the row
row_is : {V : Type 0} (used : ℕ) (row roll : List V) → Carries used row roll → used ≤ length roll → take used roll ≡ row
row_is used row roll carries le = carries.front ∙ take_all (length roll) row (omega (arith, carries.all))

pub known_is : {V : Type 0} (values : Values V) (used : ℕ) (row roll : List V) (v : V) (known : Option Place) → Carries used row roll → used ≤ length roll
    → known ≡ known_in values (take used roll) v → known_in values row v ≡ known
known_is values used row roll v known carries le e = ap (λ r. known_in values r v) (sym (row_is used row roll carries le)) ∙ sym e

module _ {R V : Type 0} (values : Values V) (meaning : R → Trust) (p : Panel R) (roll : List V) (c : Call V) where
  -- a call's history, from its answer
  pub does : (a : Answer) (q : Panel R) (after : List V)
      → world_of meaning q ≡ world_of meaning p → length after ≡ length roll → p.board.used ≤ q.board.used → drop q.board.used after ≡ drop q.board.used roll
      → ((row : List V) → Carries p.board.used row roll
      → (new : List V) × Carries q.board.used new after × (answer values (world_of meaning p) (length roll) (state_of p row) c ≡ (a, state_of q new)))
      → Does values meaning p roll c a q after
  does a q after w l u b h = record {
    same_world = w;
    same_length = l;
    grows = u;
    beyond = b;
    answers = h;
    history = λ row before carries came.
        let (new, carried, is) = h row carries in (
          new,
          carried,
          subst (λ z. CameAbout values z (record { places = length roll; call = c; answer = a } ∷ before) (state_of q new)) (sym w)
              (subst (λ r. CameAbout values (world_of meaning p) (record { places = length roll; call = c; answer = r.0 } ∷ before) r.1) is (called (length roll) c came)),
        );
  }

  -- a call that leaves the board and the roll as they were
  pub same_state : (a : Answer) (q : Panel R) (after : List V)
      → world_of meaning q ≡ world_of meaning p → q.board.used ≡ p.board.used → q.board.slots ≡ p.board.slots → after ≡ roll
      → ((row : List V) → Carries p.board.used row roll → answer values (world_of meaning p) (length roll) (state_of p row) c ≡ (a, state_of p row))
      → Does values meaning p roll c a q after
  same_state a q after w u s r h =
      does a q after w (ap length r) (omega (arith, u)) (ap (drop q.board.used) r) (λ row carries. (
        row,
        record { all = carries.all ∙ sym u; front = ap₂ take u r ∙ carries.front ∙ ap (λ l. take l row) (ap length (sym r)) },
        h row carries ∙ ap₂ (λ n x. (a, record { used = n; row = row; board = x })) (sym u) (sym s),
      ))

  pub unchanged : (a : Answer) → ((row : List V) → Carries p.board.used row roll → answer values (world_of meaning p) (length roll) (state_of p row) c ≡ (a, state_of p row))
      → Does values meaning p roll c a p roll
  unchanged a h = same_state a p roll refl refl refl refl h

  -- a call that a `?` ends after a check of one condition
  pub refuses : (b : Bool) (n e : Refusal) (a : Answer) (q : Panel R) (after : List V)
      → world_of meaning q ≡ world_of meaning p → q.board.used ≡ p.board.used → q.board.slots ≡ p.board.slots → after ≡ roll
      → Some e ≡ first_of ((b, n) ∷ []) → IsErrAnd a (λ d. d ≡ e)
      → (b ≡ true → (row : List V) → Carries p.board.used row roll → answer values (world_of meaning p) (length roll) (state_of p row) c ≡ (Err n, state_of p row))
      → Does values meaning p roll c a q after
  refuses b n e a q after w u s r checked ended h =
      let (there, is) = holds b n e checked in
      let (d, a_is, d_is) = err_from_is_err_and a ended in
      let same : a ≡ Err n = cc in
      subst (λ z. Does values meaning p roll c z q after) (sym same) (same_state (Err n) q after w u s r (h there))

  -- a call after which a value has its place and the board is b
  pub enters : (a : Answer) (v : V) (known : Option Place) (b : List Slot) (q : Panel R) (after : List V)
      → world_of meaning q ≡ world_of meaning p
      → q.board.used ≡ cond (absent known) (p.board.used + 1) p.board.used
      → q.board.slots ≡ b
      → after ≡ cond (absent known) (set roll p.board.used v) roll
      → p.board.used ≤ length roll
      → roll_full p.board.used (length roll) known ≡ false
      → ((row : List V) → Carries p.board.used row roll → answer values (world_of meaning p) (length roll) (state_of p row) c ≡ (a, entered (state_of p row) v known b))
      → Does values meaning p roll c a q after
  enters a v (Some k) b q after w u s r within free h =
      does a q after w (ap length r) (omega (arith, u)) (ap (drop q.board.used) r) (λ row carries. (
        row,
        record { all = carries.all ∙ sym u; front = ap₂ take u r ∙ carries.front ∙ ap (λ l. take l row) (ap length (sym r)) },
        h row carries ∙ ap₂ (λ n x. (a, record { used = n; row = row; board = x })) (sym u) (sym s),
      ))
  enters a v None b q after w u s r within free h =
      let n = p.board.used in
      let room : n < length roll = leb-false (length roll) n free in
      let long : length after ≡ length roll = ap length r ∙ length-set roll n v in
      does a q after w long (omega arith) (ap₂ drop u r ∙ drop-set-lt (n + 1) roll n v (omega arith) ∙ ap (λ k. drop k roll) (sym u)) (λ row carries.
      let more : length (row ++ (v ∷ [])) ≡ q.board.used = length_push row v ∙ ap (λ k. k + 1) carries.all ∙ sym u in (
        row ++ (v ∷ []),
        record {
          all = more;
          front = ap₂ take u r ∙ take_more_set roll n v room ∙ ap (λ l. l ++ (v ∷ [])) (row_is n row roll carries within)
              ∙ sym (take_all (length after) (row ++ (v ∷ [])) (omega (arith, more, u, long)));
        },
        h row carries ∙ ap₂ (λ m x. (a, record { used = m; row = row ++ (v ∷ []); board = x })) (sym u) (sym s),
      ))

-- a hand, as a call that is passed a roll
pub hands_do : {R V : Type 0} (values : Values V) (meaning : R → Trust) (p q : Panel R) (roll : List V) (n s i k : ℕ) (a : Answer)
    → Hands meaning p n s i k a q → Does values meaning p roll (Hand n s i k) a q roll
hands_do values meaning p q roll n s i k a h =
    does values meaning p roll (Hand n s i k) a q roll h.same_world refl (omega (arith, h.same_used)) refl (λ row carries. (
      row,
      record { all = carries.all ∙ sym h.same_used; front = ap (λ u. take u roll) h.same_used ∙ carries.front },
      ap (handed_on (state_of p row)) h.answers ∙ ap (λ u. (a, record { used = u; row = row; board = q.board.slots })) (sym h.same_used),
    ))
