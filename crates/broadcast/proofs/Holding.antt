-- What it is to hold a quorum or a kernel, in words of members. Assumes nothing.
use Rattle.std.proofs.Common.{◌≡◌, ℕ, suc, ◌^◌, ◌<◌, Bool, true, not, ◌&&◌, ◌||◌}
use Rattle.std.proofs.lemmas.Bool.{lt-ltb, ltb-true, and_parts, and_from}
use Rattle.sets.specs.Sets.{node?, set?, has, inside, meets}
use Rattle.sets.proofs.Tests.{any_is, all_is, implies, implies_from}
use Rattle.sets.proofs.Sets.{inside_at, inside_from, inside_self}
use Rattle.sets.proofs.Members.{meets_is}
use Rattle.trust.specs.Trust.{Trust, asked?, holds_quorum, holds_kernel}
use Rattle.trust.proofs.Guilds.{quorum_more}

-- a larger set passes too
abbrev pub Grows : ℕ → (ℕ → Bool) → Type 0
Grows n test = (a b : ℕ) → b < 2 ^ n → ((i : ℕ) → has a i ≡ true → has b i ≡ true) → test a ≡ true → test b ≡ true

module _ (t : Trust) (k : ℕ) where
  abbrev n : ℕ
  n = t.size

  asked_parts : (s : ℕ) → asked? t k s ≡ true → (node? n k ≡ true) × (s < 2 ^ n)
  asked_parts s e = let (node, low) = and_parts (node? n k) (set? n s) e in (node, ltb-true s (2 ^ n) low)

  asked_from : (s : ℕ) → node? n k ≡ true → s < 2 ^ n → asked? t k s ≡ true
  asked_from s node low = and_from (node? n k) (set? n s) node (lt-ltb s (2 ^ n) low)

  -- the quorum that a set holds
  quorum_in : (a : ℕ) → holds_quorum t k a ≡ true → (a < 2 ^ n) × ((q : ℕ) × (q < 2 ^ n) × (t.quorum k q ≡ true) × (inside q a ≡ true))
  unfolding holds_quorum
  quorum_in a e =
      let (asked, some) = and_parts (asked? t k a) _ e in
      let (q, low, both) = (any_is (2 ^ n) (λ q. t.quorum k q && inside q a)).0 some in
      let (of_k, in_a) = and_parts (t.quorum k q) (inside q a) both in
      ((asked_parts a asked).1, (q, low, of_k, in_a))

  -- a quorum holds itself
  quorum_self : (q : ℕ) → node? n k ≡ true → q < 2 ^ n → t.quorum k q ≡ true → holds_quorum t k q ≡ true
  unfolding holds_quorum
  quorum_self q node low of_k =
      and_from (asked? t k q) _ (asked_from q node low)
      ((any_is (2 ^ n) (λ p. t.quorum k p && inside p q)).1 (q, low, and_from (t.quorum k q) (inside q q) of_k (inside_self q)))

  pub quorum_grows : Grows n (holds_quorum t k)
  quorum_grows a b low more e = quorum_more t k a b low (inside_from n a b (quorum_in a e).0 (λ i _. more (suc i))) e

  kernel_parts : (s : ℕ) → holds_kernel t k s ≡ true → (node? n k ≡ true) × ((q : ℕ) → q < 2 ^ n → t.quorum k q ≡ true → (c : ℕ) × (has q c ≡ true) × (has s c ≡ true))
  unfolding holds_kernel
  kernel_parts s e =
      let (asked, all) = and_parts (asked? t k s) _ e in
      ((asked_parts s asked).0, λ q low of_k. (meets_is n q s low).0 (implies (t.quorum k q) (meets q s) ((all_is (2 ^ n) (λ p. not (t.quorum k p) || meets p s)).0 all q low) of_k))

  kernel_make : (s : ℕ) → node? n k ≡ true → s < 2 ^ n → ((q : ℕ) → q < 2 ^ n → t.quorum k q ≡ true → (c : ℕ) × (has q c ≡ true) × (has s c ≡ true)) → holds_kernel t k s ≡ true
  unfolding holds_kernel
  kernel_make s node low each =
      and_from (asked? t k s) _ (asked_from s node low)
      ((all_is (2 ^ n) (λ p. not (t.quorum k p) || meets p s)).1 (λ q l. implies_from (t.quorum k q) (meets q s) (λ of_k. (meets_is n q s l).1 (each q l of_k))))

  pub kernel_grows : Grows n (holds_kernel t k)
  kernel_grows a b low more e =
      let (node, each) = kernel_parts a e in
      kernel_make b node low (λ q l of_k. let (c, in_q, in_a) = each q l of_k in (c, in_q, more c in_a))

  -- a kernel meets each set that holds a quorum
  pub kernel_meets : (s g : ℕ) → holds_kernel t k s ≡ true → holds_quorum t k g ≡ true → (c : ℕ) × (has s c ≡ true) × (has g c ≡ true)
  kernel_meets s g e h =
      let (_, (q, low, of_k, in_g)) = quorum_in g h in
      let (c, in_q, in_s) = (kernel_parts s e).1 q low of_k in
      (c, in_s, inside_at q g c in_g in_q)

  pub kernel_from : (s : ℕ) → node? n k ≡ true → s < 2 ^ n → ((g : ℕ) → holds_quorum t k g ≡ true → (c : ℕ) × (has s c ≡ true) × (has g c ≡ true)) → holds_kernel t k s ≡ true
  kernel_from s node low each =
      kernel_make s node low (λ q l of_k. let (c, in_s, in_q) = each q (quorum_self q node l of_k) in (c, in_q, in_s))
