-- A list of calls, played one call further.
use Rattle.std.proofs.Common.{◌≡◌, ℕ, ◌+◌, ◌-◌, ◌<◌, ◌≤◌, List, [], ◌∷◌, ◌++◌, map, length, get_or, take, drop, set, sym, refl, ap, ◌∙◌, subst, arith}
use Rattle.std.proofs.lemmas.List.{map_push, drop-drop, get_or-drop, take_more, take_more_set, take_all, drop-set-lt}
use Rattle.trust.specs.Trust.{Trust}
use Rattle.runs.specs.declared.call.Call.{Call}
use Rattle.runs.specs.declared.call.Entry.{Entry}
use Rattle.runs.specs.Values.{Values}
use Rattle.runs.specs.Calls.{World, State, answer, Answer}
use Rattle.panel.specs.declared.panel.Panel.{Panel}
use Rattle.panel.specs.Views.{world_of, state_of, Does}
use Rattle.panel.specs.Playing.{played, call_of, answer_of, Plays}

-- one call more
played_more : {V : Type 0} (values : Values V) (w : World) (places : ℕ) (x : State V) (cs : List (Call V)) (c : Call V)
    → played values w places x (cs ++ (c ∷ []))
    ≡ ((played values w places x cs).0 ++ ((answer values w places (played values w places x cs).1 c).0 ∷ []), (answer values w places (played values w places x cs).1 c).1)
played_more values w places x [] c = refl
played_more values w places x (d ∷ cs) c =
    let y = answer values w places x d in ap (λ r. (y.0 ∷ r.0, r.1)) (played_more values w places y.1 cs c)

-- what stands past a place stands past a higher one
drop_further : {V : Type 0} (a b : ℕ) (xs ys : List V) → a ≤ b → drop a xs ≡ drop a ys → drop b xs ≡ drop b ys
drop_further a b xs ys le e =
    let more : a + (b - a) ≡ b = omega arith in
    ap (λ k. drop k xs) (sym more) ∙ sym (drop-drop (b - a) a xs) ∙ ap (drop (b - a)) e ∙ drop-drop (b - a) a ys ∙ ap (λ k. drop k ys) more

module _ {R V : Type 0} (values : Values V) (meaning : R → Trust) (p : Panel R) (roll : List V) where
  plays_more : (list log : List (Entry V)) (q q' : Panel R) (after after' : List V) (e : Entry V) (a : Answer)
      → Plays values meaning p roll list q after log → Does values meaning q after e.call a q' after'
      → Plays values meaning p roll (list ++ (e ∷ [])) q' after' (log ++ (record { call = e.call; answer = a } ∷ []))
  plays_more list log q q' after after' e a so_far next =
      let w = world_of meaning p in
      let n = length roll in
      record {
        same_world = next.same_world ∙ so_far.same_world;
        same_length = next.same_length ∙ so_far.same_length;
        grows = omega (arith, next.grows, so_far.grows);
        beyond = next.beyond ∙ drop_further q.board.used q'.board.used after roll next.grows so_far.beyond;
        same_calls = map_push call_of log (record { call = e.call; answer = a }) ∙ ap (λ l. l ++ (e.call ∷ [])) so_far.same_calls ∙ sym (map_push call_of list e);
        answers = λ row carries.
            let (mid, carried, is) = so_far.answers row carries in
            let (new, carries_on, says) = next.answers mid carried in
            let says_here : answer values w n (state_of q mid) e.call ≡ (a, state_of q' new) =
            subst (λ z. answer values z n (state_of q mid) e.call ≡ (a, state_of q' new)) so_far.same_world
            (subst (λ k. answer values (world_of meaning q) k (state_of q mid) e.call ≡ (a, state_of q' new)) so_far.same_length says) in (
              new,
              carries_on,
              ap (played values w n (state_of p row)) (map_push call_of list e)
                  ∙ played_more values w n (state_of p row) (map call_of list) e.call
                  ∙ ap (λ r. (r.0 ++ ((answer values w n r.1 e.call).0 ∷ []), (answer values w n r.1 e.call).1)) is
                  ∙ ap (λ r. (map answer_of log ++ (r.0 ∷ []), r.1)) says_here
                  ∙ ap (λ l. (l, state_of q' new)) (sym (map_push answer_of log (record { call = e.call; answer = a }))),
            );
      }

  -- one turn of the loop: the call at place i is made, and its answer written there
  pub plays_turn : (list log : List (Entry V)) (i : ℕ) (x : Entry V) (q q' : Panel R) (after after' : List V) (a : Answer)
      → i < length log → i < length list → drop i log ≡ drop i list
      → Plays values meaning p roll (take i list) q after (take i log) → Does values meaning q after (get_or log i x).call a q' after'
      → (let y : Entry V = record { call = (get_or log i x).call; answer = a } in
      Plays values meaning p roll (take (i + 1) list) q' after' (take (i + 1) (set log i y)) × (drop (i + 1) (set log i y) ≡ drop (i + 1) list))
  plays_turn list log i x q q' after after' a l m same so_far next =
      let e = get_or log i x in
      let y : Entry V = record { call = e.call; answer = a } in
      let zero : i + 0 ≡ i = omega arith in
      let here : get_or list i x ≡ e =
      ap (λ k. get_or list k x) (sym zero) ∙ sym (get_or-drop i list 0 x) ∙ ap (λ r. get_or r 0 x) (sym same) ∙ get_or-drop i log 0 x ∙ ap (λ k. get_or log k x) zero in
      let list_is : take i list ++ (e ∷ []) ≡ take (i + 1) list = ap (λ z. take i list ++ (z ∷ [])) (sym here) ∙ sym (take_more list i x m) in (
        subst (λ z. Plays values meaning p roll z q' after' (take (i + 1) (set log i y))) list_is
            (subst (λ z. Plays values meaning p roll (take i list ++ (e ∷ [])) q' after' z) (sym (take_more_set log i y l)) (plays_more (take i list) (take i log) q q' after after' e a so_far next)),
        drop-set-lt (i + 1) log i y (omega arith) ∙ drop_further i (i + 1) log list (omega arith) same,
      )

  pub plays_all : (list log : List (Entry V)) (i : ℕ) (q : Panel R) (after : List V) → length list ≤ i → length log ≤ i
      → Plays values meaning p roll (take i list) q after (take i log) → Plays values meaning p roll list q after log
  plays_all list log i q after l m so_far =
      subst (λ z. Plays values meaning p roll z q after log) (take_all i list l) (subst (λ z. Plays values meaning p roll (take i list) q after z) (take_all i log m) so_far)
