-- Laws of every run, in terms of the calls that were made and their answers. Assumes nothing.
use Rattle.std.specs.Prelude.{◌≡◌, ℕ, ◌≤◌, Bool, true, false, cond, not, ◌&&◌, ◌||◌, List, [], ◌∷◌, ◌++◌, length, Some, None, Option, ◌==◌, Ok, Err, is_ok}
use Rattle.sets.specs.Sets.{nodes_with}
use Rattle.trust.specs.Trust.{Trust, holds_quorum, holds_kernel}
use Rattle.protocol.specs.Hearing.{absent, is, entry}
use Rattle.protocol.specs.Kinds.{kind_number}
use Rattle.protocol.specs.declared.message.Place.{Place}
use Rattle.protocol.specs.declared.message.Kind.{Kind}
use Rattle.protocol.specs.declared.message.Kind.TheVariants.{Send, Echo, Ready}
use Rattle.protocol.specs.declared.record.Heard.{Heard}
use Rattle.protocol.specs.declared.record.Heard.TheVariants.{Ignored, Recorded, Echoed, Readied, Delivered, ReadiedDelivered}
use Rattle.protocol.specs.declared.record.Record.{Record}
use Rattle.broadcast.specs.Slots.{record_at, said, waiting}
use Rattle.broadcast.specs.Counts.{any}
use Rattle.runs.specs.declared.call.Call.{Call}
use Rattle.runs.specs.declared.call.Call.TheVariants.{Propose, Forge, Hand}
use Rattle.runs.specs.declared.call.Outcome.TheVariants.{Proposed, Already, Stepped}
use Rattle.runs.specs.Values.{Values}
use Rattle.runs.specs.Calls.{World, State, sender, setting, correct, slot_at, kind, known_in, at, Answer}
use Rattle.runs.specs.Promise.{History, CameAbout, offered}

-- the calls of a history without their answers, each with the length of the roll that it was passed
unfoldable pub asked : {V : Type 0} → History V → List (ℕ × Call V)
asked [] = []
asked (e ∷ h) = (e.places, e.call) ∷ asked h

-- the same calls in the same order have the same answers and leave the same state
abbrev pub OneOutcome : {V : Type 0} → Values V → Type 0
OneOutcome {V} values =
    (w : World) (g h : History V) (x y : State V) → CameAbout values w g x → CameAbout values w h y
    → asked g ≡ asked h → (g ≡ h) × (x ≡ y)

abbrev pub same_kind : Kind → Kind → Bool
same_kind a b = kind_number a == kind_number b

-- some call of a history passes, by its answer too
unfoldable pub some : {V : Type 0} → (Call V → Answer → Bool) → History V → Bool
some p [] = false
some p (e ∷ h) = p e.call e.answer || some p h

-- in this step the node said a message of kind m to all
abbrev pub step_says : Kind → Heard → Bool
step_says m Ignored = false
step_says m Recorded = false
step_says m Echoed = same_kind m Echo
step_says m Readied = same_kind m Ready
step_says m Delivered = false
step_says m ReadiedDelivered = same_kind m Ready

-- by an answer: a SEND was proposed, an ECHO or a READY was said in a step
abbrev pub says : Kind → Answer → Bool
says m (Ok Proposed) = same_kind m Send
says m (Ok Already) = false
says m (Ok (Stepped d)) = step_says m d
says m (Err n) = false

-- by this call node i said a message of kind m to all in slot s
abbrev pub sends : {V : Type 0} → World → ℕ → Kind → ℕ → Call V → Answer → Bool
sends w s m i (Propose t v) a = t == s && i == sender w t && says m a
sends w s m i (Forge n t j k v) a = t == s && k == i && says m a
sends w s m i (Hand n t j k) a = t == s && k == i && says m a

-- by this call node i's message of kind m in slot s was handed to k
abbrev pub hands_over : {V : Type 0} → ℕ → Kind → ℕ → ℕ → Call V → Answer → Bool
hands_over s m i k (Propose t v) a = false
hands_over s m i k (Forge n t j l v) a = false
hands_over s m i k (Hand n t j l) a = is_ok a && t == s && same_kind (kind n) m && j == i && l == k

-- both nodes are correct, i said it, and no accepted hand brought it to k
abbrev pub waits : {V : Type 0} → World → History V → ℕ → Kind → ℕ → ℕ → Bool
waits w h s m i k = correct w i && correct w k && some (sends w s m i) h && not (some (hands_over s m i k) h)

-- a message waits exactly when the history says so
abbrev pub WaitingLaw : {V : Type 0} → Values V → Type 0
WaitingLaw {V} values =
    (w : World) (h : History V) (x : State V) → CameAbout values w h x
    → (s i k : ℕ) (m : Kind) → any (waiting (setting w s) (slot_at x.board s) m i k) ≡ waits w h s m i k

-- a message as it reached a node, with the place of its value
pub record Arrival : Type 0 where
  pub kind : Kind
  pub from : ℕ
  pub value : Option Place

-- the messages that accepted forges and hands brought to node k in slot s, the ignored ones too, the latest first
module _ {V : Type 0} (values : Values V) (w : World) (x : State V) (s k : ℕ) where
  -- a forged value is known at its place, and a hand brings what its sender said
  abbrev pub brings : Call V → List Arrival
  brings (Propose t v) = []
  brings (Forge n t i j v) = cond (t == s && j == k) (record { kind = kind n; from = i; value = known_in values x.row v } ∷ []) []
  brings (Hand n t i j) = cond (t == s && j == k) (record { kind = kind n; from = i; value = said (setting w s) (slot_at x.board s) (kind n) i } ∷ []) []

  unfoldable pub arrivals_at : History V → List Arrival
  arrivals_at [] = []
  arrivals_at (e ∷ h) = cond (is_ok e.answer) (brings e.call) [] ++ arrivals_at h

abbrev pub or_else : Option Place → Option Place → Option Place
or_else (Some p) q = Some p
or_else None q = q

-- the value of the first message that passes, by itself and those before it
unfoldable pub first : (Arrival → List Arrival → Bool) → List Arrival → Option Place
first p [] = None
first p (l ∷ ls) = or_else (first p ls) (cond (p l ls) l.value None)

-- the first message of kind m from node i
abbrev pub first_from : Kind → ℕ → List Arrival → Option Place
first_from m i = first (λ l ls. same_kind l.kind m && l.from == i)

-- the nodes whose first message of kind m has the value
abbrev pub sayers : Kind → Option Place → List Arrival → ℕ
sayers m None ls = 0
sayers m (Some v) ls = nodes_with 16 (λ i. is v (first_from m i ls))

-- a message is the first of its kind from its node
abbrev pub new : Arrival → List Arrival → Bool
new l before = absent (first_from l.kind l.from before)

-- a node readies by an ECHO with which the ECHOs of its value hold a quorum, or by a READY with which the READYs of its value hold a kernel
abbrev pub readies_by : Trust → ℕ → Option Place → List Arrival → Kind → Bool
readies_by t me v ls Send = false
readies_by t me v ls Echo = holds_quorum t me (sayers Echo v ls)
readies_by t me v ls Ready = holds_kernel t me (sayers Ready v ls)

-- and delivers by a READY with which the READYs of its value hold a quorum
abbrev pub delivers_by : Trust → ℕ → Option Place → List Arrival → Kind → Bool
delivers_by t me v ls Send = false
delivers_by t me v ls Echo = false
delivers_by t me v ls Ready = holds_quorum t me (sayers Ready v ls)

-- with this message and those before it
abbrev pub ready_now : Trust → ℕ → Arrival → List Arrival → Bool
ready_now t me l before = new l before && readies_by t me l.value (l ∷ before) l.kind

abbrev pub deliver_now : Trust → ℕ → Arrival → List Arrival → Bool
deliver_now t me l before = new l before && delivers_by t me l.value (l ∷ before) l.kind

-- a node's record of a slot, by the messages brought to it
pub record RecordedBy (t : Trust) (me sender : ℕ) (ls : List Arrival) (r : Record) : Type 0 where
  pub echoed : r.echoed ≡ first_from Send sender ls
  pub echoes : (i : ℕ) → 1 ≤ i → entry r.echoes i ≡ first_from Echo i ls
  pub readies : (i : ℕ) → 1 ≤ i → entry r.readies i ≡ first_from Ready i ls
  pub readied : r.readied ≡ first (ready_now t me) ls
  pub delivered : r.delivered ≡ first (deliver_now t me) ls

-- a correct node's record is what the messages brought to it say: it echoed the sender's first SEND, keeps each node's first ECHO and READY,
-- and readied and delivered at the first message that let it
abbrev pub RecordLaw : {V : Type 0} → Values V → Type 0
RecordLaw {V} values =
    (w : World) (h : History V) (x : State V) → CameAbout values w h x
    → (s k : ℕ) → correct w k ≡ true
    → RecordedBy w.trust k (sender w s) (arrivals_at values w x s k h) (record_at (slot_at x.board s) k)

-- what a call proposed in slot s, by its answer
abbrev pub proposed_by : {V : Type 0} (values : Values V) → ℕ → Call V → Answer → List values.Meaning
proposed_by values s (Propose t v) (Ok Proposed) = cond (t == s) (values.meaning v ∷ []) []
proposed_by values s (Propose t v) (Ok Already) = []
proposed_by values s (Propose t v) (Ok (Stepped d)) = []
proposed_by values s (Propose t v) (Err n) = []
proposed_by values s (Forge n t i k v) a = []
proposed_by values s (Hand n t i k) a = []

-- what the calls of a history proposed in slot s, the latest first
unfoldable pub proposed_in : {V : Type 0} (values : Values V) → ℕ → History V → List values.Meaning
proposed_in values s [] = []
proposed_in values s (e ∷ h) = proposed_by values s e.call e.answer ++ proposed_in values s h

abbrev pub as_list : {A : Type 0} → Option A → List A
as_list None = []
as_list (Some a) = a ∷ []

-- a slot has a proposal exactly when a call was answered `proposed` there; that is one call, and the proposal is its value
abbrev pub ProposalLaw : {V : Type 0} → Values V → Type 0
ProposalLaw {V} values = (w : World) (h : History V) (x : State V) → CameAbout values w h x → (s : ℕ) → proposed_in values s h ≡ as_list (offered values x s)

-- each used place has a value, and no two have the same
abbrev pub PlaceLaw : {V : Type 0} → Values V → Type 0
PlaceLaw {V} values =
    (w : World) (h : History V) (x : State V) → CameAbout values w h x
    → (length x.row ≡ x.used)
    × ((p q : ℕ) (u v : V) → at x.row p ≡ Some u → at x.row q ≡ Some v → values.meaning u ≡ values.meaning v → p ≡ q)
