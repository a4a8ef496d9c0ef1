-- What the opening and each call of a panel answer and leave. A value is known by its meaning, a message's value by its place on the roll.
use Rattle.std.specs.Prelude.{ℕ, zero, suc, ◌+◌, ◌%◌, Bool, false, cond, not, ◌&&◌, ◌||◌, List, [], ◌∷◌, ◌++◌, replicate, is_some, Some, None, Option, Result, ◌==◌, nat_le, nat_lt, slice_index_or, slice_set, Ok, Err}
use Rattle.std.specs.Option.{unwrap_or, option_map_or}
use Rattle.sets.specs.Sets.{node?, set?, has}
use Rattle.trust.specs.declared.refusal.Refusal.{Refusal}
use Rattle.trust.specs.declared.refusal.Refusal.TheVariants.{SlotCount, RollSize, FaultyMask, Unsound, NoSuch, WrongParty, Unfit, OtherProposal, NotWaiting, RollFull}
use Rattle.trust.specs.Refusals.{first_of}
use Rattle.trust.specs.Trust.{Trust, sound}
use Rattle.protocol.specs.Fresh.{fresh_slot}
use Rattle.protocol.specs.Hearing.{absent, is, heeds, hear}
use Rattle.protocol.specs.Kinds.{kind_of}
use Rattle.protocol.specs.declared.message.Place.{Place}
use Rattle.protocol.specs.declared.message.Kind.{Kind}
use Rattle.protocol.specs.declared.message.Kind.TheVariants.{Ready}
use Rattle.protocol.specs.declared.record.Heard.{Heard}
use Rattle.protocol.specs.declared.record.Heard.TheVariants.{Ignored}
use Rattle.protocol.specs.declared.slot.Slot.{Slot}
use Rattle.broadcast.specs.Slots.{Setting, record_at, waiting}
use Rattle.broadcast.specs.Events.{hears}
use Rattle.runs.specs.declared.call.Call.{Call}
use Rattle.runs.specs.declared.call.Call.TheVariants.{Propose, Forge, Hand}
use Rattle.runs.specs.declared.call.Outcome.{Outcome}
use Rattle.runs.specs.declared.call.Outcome.TheVariants.{Proposed, Already, Stepped}
use Rattle.runs.specs.Values.{Values}

-- what a panel was opened with
pub record World : Type 0 where
  pub trust : Trust
  pub slots : ℕ
  pub faulty : ℕ

-- what a panel and its roll hold: `row` is the used places' values, `used` their number
pub record State (V : Type 0) : Type 0 where
  pub used : ℕ
  pub row : List V
  pub board : List Slot

-- the sender of slot s
abbrev pub sender : World → ℕ → ℕ
sender w s = s % w.trust.size + 1

-- slot s as the broadcast sees it
abbrev pub setting : World → ℕ → Setting
setting w s = record { trust = w.trust; faulty = w.faulty; sender = sender w s }

abbrev pub correct : World → ℕ → Bool
correct w i = node? w.trust.size i && not (has w.faulty i)

-- past the end of a board
abbrev pub no_slot : Slot
no_slot = record { proposal = None; records = [] }

abbrev pub slot_at : List Slot → ℕ → Slot
slot_at b s = slice_index_or b s no_slot

-- 7, of a roll of which `used` places are in use
abbrev pub roll_size : ℕ → ℕ → Bool
roll_size used places = places == 0 || nat_lt 255 places || nat_lt places used

abbrev pub open_refusals : World → ℕ → List (Bool × Refusal)
open_refusals w places =
    (not (node? 16 w.slots), SlotCount)
    ∷ ((roll_size 0 places, RollSize)
    ∷ ((not (set? w.trust.size w.faulty), FaultyMask)
    ∷ ((not (sound w.trust), Unsound)
    ∷ [])))

-- why a panel does not open over a roll of that many places
abbrev pub opening : World → ℕ → Option Refusal
opening w places = first_of (open_refusals w places)

abbrev pub fresh : {V : Type 0} → State V
fresh = record { used = 0; row = []; board = replicate 16 fresh_slot }

-- the value at a place of the row
abbrev pub at : {V : Type 0} → List V → ℕ → Option V
at [] p = None
at (v ∷ vs) zero = Some v
at (v ∷ vs) (suc p) = at vs p

-- the lowest place from p on of a row that has the value v, if any has it
abbrev pub known_from : {V : Type 0} → Values V → ℕ → List V → V → Option Place
known_from values p [] v = None
known_from values p (u ∷ us) v = cond (values.same (values.meaning u) (values.meaning v)) (Some (record { 0 = p })) (known_from values (suc p) us v)

abbrev pub known_in : {V : Type 0} → Values V → List V → V → Option Place
known_in values row v = known_from values 0 row v

-- where a value goes that is known at that place, and 15
abbrev pub place_of : ℕ → Option Place → Place
place_of used None = record { 0 = used }
place_of used (Some p) = p

abbrev pub roll_full : ℕ → ℕ → Option Place → Bool
roll_full used places known = absent known && nat_le places used

-- with a new board, and with v at the row's end where it is new
abbrev pub entered : {V : Type 0} → State V → V → Option Place → List Slot → State V
entered x v None b = record { used = x.used + 1; row = x.row ++ (v ∷ []); board = b }
entered x v (Some _) b = record { used = x.used; row = x.row; board = b }

abbrev pub slot? : World → ℕ → Bool
slot? w s = nat_lt s w.slots

-- the kind with that number; any other number is refused
abbrev pub kind : ℕ → Kind
kind n = unwrap_or (kind_of n) Ready

abbrev pub message? : World → ℕ → ℕ → ℕ → ℕ → Bool
message? w n s i k = is_some (kind_of n) && slot? w s && node? w.trust.size i && node? w.trust.size k

-- what a call is answered: what it came to, or why it was refused
abbrev pub Answer : Type 0
Answer = Result Outcome Refusal

-- a refused call changes nothing
abbrev pub refused : {A : Type 0} → A → Refusal → Answer × A
refused x n = (Err n, x)

-- 13, by the proposal's place
abbrev pub other_proposal : Option Place → Option Place → Bool
other_proposal None known = false
other_proposal (Some p) known = not (is p known)

-- node k heeds a message of that kind from i in slot s
abbrev pub heeds_in : World → List Slot → ℕ → Kind → ℕ → ℕ → Bool
heeds_in w b s m i k = heeds w.trust.size (sender w s) (record_at (slot_at b s) k) m i

-- what node k does on hearing m from i with the value at place p, and the board after it
abbrev pub hears_in : World → List Slot → ℕ → Kind → ℕ → ℕ → Place → Heard × List Slot
hears_in w b s m i k p =
    ((hear w.trust k (sender w s) (record_at (slot_at b s) k) m i p).1, slice_set b s (hears (setting w s) m i k p (slot_at b s)))

abbrev pub waiting_in : World → List Slot → ℕ → Kind → ℕ → ℕ → Option Place
waiting_in w b s m i k = waiting (setting w s) (slot_at b s) m i k

abbrev pub with_proposal : List Slot → ℕ → Place → List Slot
with_proposal b s p = slice_set b s (record { proposal = Some p; records = (slot_at b s).records })

abbrev pub propose_refusals : {V : Type 0} → World → State V → ℕ → ℕ → Bool → Option Place → List (Bool × Refusal)
propose_refusals w x places s fit known =
    (roll_size x.used places, RollSize)
    ∷ ((not (slot? w s), NoSuch)
    ∷ ((not (correct w (sender w s)), WrongParty)
    ∷ ((not fit, Unfit)
    ∷ ((other_proposal (slot_at x.board s).proposal known, OtherProposal)
    ∷ ((roll_full x.used places known, RollFull)
    ∷ [])))))

abbrev pub propose : {V : Type 0} → World → ℕ → State V → ℕ → V → Bool → Option Place → Answer × State V
propose w places x s v fit known =
    option_map_or (refused x) (first_of (propose_refusals w x places s fit known))
    (cond (absent (slot_at x.board s).proposal)
    (Ok Proposed, entered x v known (with_proposal x.board s (place_of x.used known)))
    (Ok Already, x))

abbrev pub forge_refusals : {V : Type 0} → World → State V → ℕ → ℕ → ℕ → ℕ → ℕ → Bool → Option Place → List (Bool × Refusal)
forge_refusals w x places n s i k fit known =
    (roll_size x.used places, RollSize)
    ∷ ((not (message? w n s i k), NoSuch)
    ∷ ((correct w i || not (correct w k), WrongParty)
    ∷ ((not fit, Unfit)
    ∷ ((heeds_in w x.board s (kind n) i k && roll_full x.used places known, RollFull)
    ∷ []))))

abbrev pub stepped : {V : Type 0} → State V → V → Option Place → Heard × List Slot → Answer × State V
stepped x v known r = (Ok (Stepped r.0), entered x v known r.1)

-- an ignored message adds nothing
abbrev pub forge : {V : Type 0} → World → ℕ → State V → ℕ → ℕ → ℕ → ℕ → V → Bool → Option Place → Answer × State V
forge w places x n s i k v fit known =
    option_map_or (refused x) (first_of (forge_refusals w x places n s i k fit known))
    (cond (heeds_in w x.board s (kind n) i k)
    (stepped x v known (hears_in w x.board s (kind n) i k (place_of x.used known)))
    (Ok (Stepped Ignored), x))

abbrev pub hand_refusals : World → List Slot → ℕ → ℕ → ℕ → ℕ → List (Bool × Refusal)
hand_refusals w b n s i k =
    (not (message? w n s i k), NoSuch)
    ∷ ((not (correct w i && correct w k), WrongParty)
    ∷ ((absent (waiting_in w b s (kind n) i k), NotWaiting)
    ∷ []))

-- the message that waits is heard
abbrev pub brought : World → List Slot → ℕ → Kind → ℕ → ℕ → Option Place → Answer × List Slot
brought w b s m i k None = (Err NotWaiting, b)
brought w b s m i k (Some p) = (Ok (Stepped (hears_in w b s m i k p).0), (hears_in w b s m i k p).1)

-- a hand has no part in the roll
abbrev pub hand : World → List Slot → ℕ → ℕ → ℕ → ℕ → Answer × List Slot
hand w b n s i k =
    option_map_or (refused b) (first_of (hand_refusals w b n s i k)) (brought w b s (kind n) i k (waiting_in w b s (kind n) i k))

abbrev pub handed_on : {V : Type 0} → State V → Answer × List Slot → Answer × State V
handed_on x r = (r.0, record { used = x.used; row = x.row; board = r.1 })

-- the whole of what a call answers and leaves, which was passed a roll of that many places
abbrev pub answer : {V : Type 0} → Values V → World → ℕ → State V → Call V → Answer × State V
answer values w places x (Propose s v) = propose w places x s v (values.fit (values.meaning v)) (known_in values x.row v)
answer values w places x (Forge n s i k v) = forge w places x n s i k v (values.fit (values.meaning v)) (known_in values x.row v)
answer values w places x (Hand n s i k) = handed_on x (hand w x.board n s i k)
