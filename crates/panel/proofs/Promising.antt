-- What was played came about, so the promise holds of it.
use Rattle.std.proofs.Common.{◌≡◌, ℕ, List, [], ◌∷◌, map, length, sym, ap, ◌∙◌, subst, ap₂}
use Rattle.trust.specs.Trust.{Trust}
use Rattle.runs.specs.declared.call.Entry.{Entry}
use Rattle.runs.specs.Values.{Values}
use Rattle.runs.specs.Calls.{World, State, answer, Answer}
use Rattle.runs.specs.Promise.{History, CameAbout}
use Rattle.runs.specs.Promise.CameAbout.{called}
use Rattle.runs.proofs.Promised.{kept}
use Rattle.panel.specs.declared.panel.Panel.{Panel}
use Rattle.panel.specs.Views.{world_of, state_of}
use Rattle.panel.specs.Playing.{played, call_of, answer_of, Plays, logged, Promises}

-- a list played from a state that came about
came_played : {V : Type 0} (values : Values V) (w : World) (places : ℕ) (log : List (Entry V)) (h : History V) (x y : State V)
    → CameAbout values w h x → played values w places x (map call_of log) ≡ (map answer_of log, y) → CameAbout values w (logged places log h) y
came_played values w places [] h x y came is = subst (λ z. CameAbout values w h z) (ap (λ r. r.1) is) came
came_played values w places (e ∷ es) h x y came is =
    let r = answer values w places x e.call in
    let first : r.0 ≡ e.answer = ap (λ z. head_of z.0) is in
    let rest : played values w places r.1 (map call_of es) ≡ (map answer_of es, y) = ap₂ (λ a b. (a, b)) (ap (λ z. tail_of z.0) is) (ap (λ z. z.1) is) in
    came_played values w places es (record { places = places; call = e.call; answer = e.answer } ∷ h) r.1 y
    (subst (λ a. CameAbout values w (record { places = places; call = e.call; answer = a } ∷ h) r.1) first (called places e.call came)) rest
  where
    head_of : List Answer → Answer
    head_of [] = e.answer
    head_of (a ∷ rest) = a

    tail_of : List Answer → List Answer
    tail_of [] = []
    tail_of (a ∷ rest) = rest

pub promised : {R V : Type 0} (values : Values V) (meaning : R → Trust) (p q : Panel R) (roll after : List V) (list log : List (Entry V))
    → Plays values meaning p roll list q after log → Promises values meaning p roll q after log
promised values meaning p q roll after list log plays row h carries came =
    let (new, carried, is) = plays.answers row carries in
    let w = world_of meaning p in
    let here : played values w (length roll) (state_of p row) (map call_of log) ≡ (map answer_of log, state_of q new) = ap (played values w (length roll) (state_of p row)) plays.same_calls ∙ is in
    let there = subst (λ z. CameAbout values z (logged (length roll) log h) (state_of q new)) (sym plays.same_world) (came_played values w (length roll) log h (state_of p row) (state_of q new) came here) in
    (new, carried, there, kept values (world_of meaning q) (logged (length roll) log h) (state_of q new) there)
