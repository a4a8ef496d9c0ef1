-- What one message changes in the record of the node that hears it. Assumes nothing.
use Rattle.std.proofs.Common.{◌≡◌, ℕ, ◌-◌, ◌≤◌, Bool, true, false, cond, ◌&&◌, eqb, ◌⊎◌, List, set, Some, None, Option, sym, refl, ap, ◌∙◌, subst, inl, inr, ⊎_elim}
use Rattle.std.proofs.lemmas.Bool.{eqb-true, and_parts, and_from}
use Rattle.sets.specs.Sets.{node?, has}
use Rattle.trust.specs.Trust.{Trust, holds_quorum, holds_kernel}
use Rattle.protocol.specs.Hearing.{absent, entry, recorded_with, taken, may_say, heeds, takes, hear}
use Rattle.protocol.specs.declared.message.Place.{Place}
use Rattle.protocol.specs.declared.message.Kind.{Kind}
use Rattle.protocol.specs.declared.message.Kind.TheVariants.{Send, Echo, Ready}
use Rattle.protocol.specs.declared.record.Heard.TheVariants.{Ignored}
use Rattle.protocol.specs.declared.record.Record.{Record}
use Rattle.broadcast.proofs.Places.{IsSome, Kept, some_kept, none_not_some, cases_place, absent_none, once_kept, once_new, settled}
use Rattle.broadcast.proofs.Entries.{Fit, in_set, set_has, node_bounds, recorded_lt, entry_here, fit_set, entry_kept, entry_new}
use Rattle.broadcast.proofs.Holding.{Grows, quorum_grows, kernel_grows}

-- a test of who is recorded with u, as v from j is recorded
module _ (n : ℕ) (test : ℕ → Bool) (grows : Grows n test) (xs : List (Option Place)) (j : ℕ) (v : Place) (fit : Fit n xs) (in_range : node? n j ≡ true) (free : entry xs j ≡ None) where
  abbrev ys : List (Option Place)
  ys = set xs (j - 1) (Some v)

  pub test_kept : (u : Place) → test (recorded_with xs u) ≡ true → test (recorded_with ys u) ≡ true
  test_kept u = grows _ _ (recorded_lt n ys u (fit_set n xs j v fit in_range)) (λ i e.
      let (r, was) = in_set (entry xs) u i e in set_has (entry ys) u i r (entry_kept n xs j v fit in_range free i u was))

  pub test_new : (u : Place) → test (recorded_with ys u) ≡ true → (u ≡ v) ⊎ (test (recorded_with xs u) ≡ true)
  test_new u t = ⊎_elim inl (λ ne. inr (grows _ _ (recorded_lt n xs u fit) (still ne) t)) (cases_place u v)
    where
      still : (u ≡ v → ⊥) → (i : ℕ) → has (recorded_with ys u) i ≡ true → has (recorded_with xs u) i ≡ true
      still ne i e =
          let (r, is_u) = in_set (entry ys) u i e in
          set_has (entry xs) u i r
          (⊎_elim (λ was. was) (λ h. absurd (ne (sym h.1))) (entry_new n xs j v fit in_range free i u (node_bounds 16 i r).0 is_u))

-- a message that is not ignored
module _ (n sender j : ℕ) (x : Record) (m : Kind) where
  heeds_parts : heeds n sender x m j ≡ true → (node? n j ≡ true) × (may_say sender m j ≡ true) × (taken sender x m j ≡ None)
  heeds_parts e =
      let (may, free) = and_parts (node? n j && may_say sender m j) (absent (taken sender x m j)) e in
      let (node, says) = and_parts (node? n j) (may_say sender m j) may in
      (node, says, absent_none (taken sender x m j) free)

  pub heeds_from : node? n j ≡ true → may_say sender m j ≡ true → taken sender x m j ≡ None → heeds n sender x m j ≡ true
  heeds_from node says free =
      and_from (node? n j && may_say sender m j) (absent (taken sender x m j)) (and_from (node? n j) (may_say sender m j) node says) (ap absent free)

module _ (t : Trust) (sender k j : ℕ) (v : Place) (x : Record) where
  -- the ways in which node k hears v from j
  pub data Hears : Kind → Record → Type 0 where
    same : (m : Kind) → Hears m x
    sent : j ≡ sender → x.echoed ≡ None → Hears Send (takes t k x Send j v).0
    echo : node? t.size j ≡ true → entry x.echoes j ≡ None → Hears Echo (takes t k x Echo j v).0
    ready : node? t.size j ≡ true → entry x.readies j ≡ None → Hears Ready (takes t k x Ready j v).0

  pub heard : (m : Kind) → Hears m (hear t k sender x m j v).0
  heard m = go m (heeds t.size sender x m j) refl
    where
      go : (n : Kind) (b : Bool) → heeds t.size sender x n j ≡ b → Hears n (cond b (takes t k x n j v) (x, Ignored)).0
      go n false e = same n
      go Send true e = let (_, says, free) = heeds_parts t.size sender j x Send e in sent (eqb-true j sender says) (sym (ap (λ b. cond b x.echoed None) says) ∙ free)
      go Echo true e = let (node, _, free) = heeds_parts t.size sender j x Echo e in echo node free
      go Ready true e = let (node, _, free) = heeds_parts t.size sender j x Ready e in ready node free

-- entries stay
pub record Grew (x y : Record) : Type 0 where
  pub echoed : Kept x.echoed y.echoed
  pub readied : Kept x.readied y.readied
  pub echoes : (i : ℕ) → Kept (entry x.echoes i) (entry y.echoes i)
  pub readies : (i : ℕ) → Kept (entry x.readies i) (entry y.readies i)

pub stays : (x : Record) → Grew x x
stays x = record { echoed = λ u e. e; readied = λ u e. e; echoes = λ i u e. e; readies = λ i u e. e }

pub taken_kept : (sender : ℕ) {x y : Record} → Grew x y → (m : Kind) (i : ℕ) → Kept (taken sender x m i) (taken sender y m i)
taken_kept sender {x} {y} g Send i u = go (eqb i sender)
  where
    go : (b : Bool) → cond b x.echoed None ≡ Some u → cond b y.echoed None ≡ Some u
    go true e = g.echoed u e
    go false e = e
taken_kept sender g Echo i u = g.echoes i u
taken_kept sender g Ready i u = g.readies i u

-- a record of n nodes
pub record Shaped (n : ℕ) (x : Record) : Type 0 where
  pub echoes : Fit n x.echoes
  pub readies : Fit n x.readies

-- a node delivers by a quorum's READYs
abbrev pub Delivers : Trust → ℕ → Record → Type 0
Delivers t k x = (u : Place) → x.delivered ≡ Some u → holds_quorum t k (recorded_with x.readies u) ≡ true

-- a node that could ready or deliver has done so
pub record Settles (t : Trust) (k : ℕ) (x : Record) : Type 0 where
  pub by_echoes : (u : Place) → holds_quorum t k (recorded_with x.echoes u) ≡ true → IsSome x.readied
  pub by_kernel : (u : Place) → holds_kernel t k (recorded_with x.readies u) ≡ true → IsSome x.readied
  pub by_quorum : (u : Place) → holds_quorum t k (recorded_with x.readies u) ≡ true → IsSome x.delivered

module _ {t : Trust} {sender k j : ℕ} {v : Place} {x : Record} (shaped : Shaped t.size x) where
  pub grew : {m : Kind} {y : Record} → Hears t sender k j v x m y → Grew x y
  grew (same m) = stays x
  grew (sent is free) = record { echoed = λ u e. absurd (none_not_some (sym free ∙ e)); readied = λ u e. e; echoes = λ i u e. e; readies = λ i u e. e }
  grew (echo node free) = record {
    echoed = λ u e. e;
    readied = once_kept _ v x.readied;
    echoes = entry_kept t.size x.echoes j v shaped.echoes node free;
    readies = λ i u e. e;
  }
  grew (ready node free) = record {
    echoed = λ u e. e;
    readied = once_kept _ v x.readied;
    echoes = λ i u e. e;
    readies = entry_kept t.size x.readies j v shaped.readies node free;
  }

  pub shaped_still : {m : Kind} {y : Record} → Hears t sender k j v x m y → Shaped t.size y
  shaped_still (same m) = shaped
  shaped_still (sent is free) = record { echoes = shaped.echoes; readies = shaped.readies }
  shaped_still (echo node free) = record { echoes = fit_set t.size x.echoes j v shaped.echoes node; readies = shaped.readies }
  shaped_still (ready node free) = record { echoes = shaped.echoes; readies = fit_set t.size x.readies j v shaped.readies node }

  pub delivers_still : {m : Kind} {y : Record} → Hears t sender k j v x m y → Delivers t k x → Delivers t k y
  delivers_still (same m) was u e = was u e
  delivers_still (sent is free) was u e = was u e
  delivers_still (echo node free) was u e = was u e
  delivers_still (ready node free) was u e =
      let rs = set x.readies (j - 1) (Some v) in
      ⊎_elim (λ o. test_kept t.size (holds_quorum t k) (quorum_grows t k) x.readies j v shaped.readies node free u (was u o))
      (λ n. subst (λ z. holds_quorum t k (recorded_with rs z) ≡ true) n.1 n.0)
      (once_new (holds_quorum t k (recorded_with rs v)) v x.delivered u e)

  pub settles_still : {m : Kind} {y : Record} → Hears t sender k j v x m y → Settles t k x → Settles t k y
  settles_still (same m) was = was
  settles_still (sent is free) was = record { by_echoes = was.by_echoes; by_kernel = was.by_kernel; by_quorum = was.by_quorum }
  settles_still (echo node free) was = record {
    by_echoes = settled _ (λ u. holds_quorum t k (recorded_with (set x.echoes (j - 1) (Some v)) u)) v x.readied
        (test_new t.size (holds_quorum t k) (quorum_grows t k) x.echoes j v shaped.echoes node free) was.by_echoes;
    by_kernel = λ u h. some_kept (once_kept _ v x.readied) (was.by_kernel u h);
    by_quorum = was.by_quorum;
  }
  settles_still (ready node free) was = record {
    by_echoes = λ u h. some_kept (once_kept _ v x.readied) (was.by_echoes u h);
    by_kernel = settled _ (λ u. holds_kernel t k (recorded_with (set x.readies (j - 1) (Some v)) u)) v x.readied
        (test_new t.size (holds_kernel t k) (kernel_grows t k) x.readies j v shaped.readies node free) was.by_kernel;
    by_quorum = settled _ (λ u. holds_quorum t k (recorded_with (set x.readies (j - 1) (Some v)) u)) v x.delivered
        (test_new t.size (holds_quorum t k) (quorum_grows t k) x.readies j v shaped.readies node free) was.by_quorum;
  }

  -- what is newly taken is what was heard
  pub taken_new : {m : Kind} {y : Record} → Hears t sender k j v x m y → (n : Kind) (i : ℕ) (u : Place) → 1 ≤ i
      → taken sender y n i ≡ Some u → (taken sender x n i ≡ Some u) ⊎ ((n ≡ m) × (i ≡ j) × (v ≡ u))
  taken_new (same m) n i u low e = inl e
  taken_new (sent is free) Send i u low e = go (eqb i sender) refl e
    where
      go : (b : Bool) → eqb i sender ≡ b → cond b (Some v) None ≡ Some u → (cond b x.echoed None ≡ Some u) ⊎ ((Send ≡ Send) × (i ≡ j) × (v ≡ u))
      go true h e' = inr (refl, eqb-true i sender h ∙ sym is, cc)
      go false h e' = inl e'
  taken_new (sent is free) Echo i u low e = inl e
  taken_new (sent is free) Ready i u low e = inl e
  taken_new (echo node free) Send i u low e = inl e
  taken_new (echo node free) Echo i u low e =
      ⊎_elim inl (λ h. inr (refl, h.0, h.1)) (entry_new t.size x.echoes j v shaped.echoes node free i u low e)
  taken_new (echo node free) Ready i u low e = inl e
  taken_new (ready node free) Send i u low e = inl e
  taken_new (ready node free) Echo i u low e = inl e
  taken_new (ready node free) Ready i u low e =
      ⊎_elim inl (λ h. inr (refl, h.0, h.1)) (entry_new t.size x.readies j v shaped.readies node free i u low e)

  -- a node readies by a quorum's ECHOs or a kernel's READYs
  pub readied_new : {m : Kind} {y : Record} → Hears t sender k j v x m y → (u : Place) → y.readied ≡ Some u
      → (x.readied ≡ Some u) ⊎ ((holds_quorum t k (recorded_with y.echoes u) ≡ true) ⊎ (holds_kernel t k (recorded_with y.readies u) ≡ true))
  readied_new (same m) u e = inl e
  readied_new (sent is free) u e = inl e
  readied_new (echo node free) u e =
      let es = set x.echoes (j - 1) (Some v) in
      ⊎_elim inl (λ n. inr (inl (subst (λ z. holds_quorum t k (recorded_with es z) ≡ true) n.1 n.0)))
      (once_new (holds_quorum t k (recorded_with es v)) v x.readied u e)
  readied_new (ready node free) u e =
      let rs = set x.readies (j - 1) (Some v) in
      ⊎_elim inl (λ n. inr (inr (subst (λ z. holds_kernel t k (recorded_with rs z) ≡ true) n.1 n.0)))
      (once_new (holds_kernel t k (recorded_with rs v)) v x.readied u e)

-- a message that is not ignored is taken
module _ (t : Trust) (sender k j : ℕ) (v : Place) (x : Record) (shaped : Shaped t.size x) where
  pub taken_now : (m : Kind) → heeds t.size sender x m j ≡ true → taken sender (hear t k sender x m j v).0 m j ≡ Some v
  taken_now m heeded =
      let (node, says, _) = heeds_parts t.size sender j x m heeded in
      ap (λ b. taken sender (cond b (takes t k x m j v) (x, Ignored)).0 m j) heeded ∙ here m node says
    where
      here : (n : Kind) → node? t.size j ≡ true → may_say sender n j ≡ true → taken sender (takes t k x n j v).0 n j ≡ Some v
      here Send node says = ap (λ b. cond b (Some v) None) says
      here Echo node says = entry_here t.size x.echoes j v shaped.echoes node
      here Ready node says = entry_here t.size x.readies j v shaped.readies node
