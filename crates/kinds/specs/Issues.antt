-- What an issue means: its six fields.
use Rattle.std.specs.Prelude.{◌≡◌, ℕ, ◌-◌, Bool, ◌&&◌, Decides, ◌==◌, nat_le, nat_lt}
use Rattle.std.proofs.Common.{ap}
use Rattle.std.proofs.lemmas.Bool.Decides.{Decides-and, Decides-like, Decides-eqb}
use Rattle.runs.specs.Values.{Values}
use Rattle.kinds.specs.declared.issue.Issue.{Issue}

-- the claim is the account, the device and the request number
pub record Claim : Type 0 where
  pub account : ℕ
  pub device : ℕ
  pub request : ℕ

abbrev pub claim_of : Issue → Claim
claim_of x = record { account = x.account; device = x.device; request = x.request }

abbrev pub lifetime : Issue → ℕ
lifetime x = x.end - x.start

-- the end is above the start, and the lifetime at most 7,776,000 seconds
abbrev pub fit_issue : Issue → Bool
fit_issue x = nat_lt x.start x.end && nat_le (lifetime x) 7776000

abbrev pub same_claim : Claim → Claim → Bool
same_claim a b = a.account == b.account && a.device == b.device && a.request == b.request

abbrev pub same_issue : Issue → Issue → Bool
same_issue a b =
    (a.account == b.account) && a.device == b.device && a.request == b.request
    && a.key_print == b.key_print && a.start == b.start && a.end == b.end

pub same_claim_is : (a b : Claim) → Decides (same_claim a b) (a ≡ b)
same_claim_is a b =
    Decides-like (same_claim a b)
    (λ e. let p = e.0.0 in let q = e.0.1 in let r = e.1 in λ i. record { account = p i; device = q i; request = r i })
    (λ e. ((ap (λ x. x.account) e, ap (λ x. x.device) e), ap (λ x. x.request) e))
    (Decides-and _ _ (Decides-and _ _ (Decides-eqb a.account b.account) (Decides-eqb a.device b.device)) (Decides-eqb a.request b.request))

pub same_issue_is : (a b : Issue) → Decides (same_issue a b) (a ≡ b)
same_issue_is a b =
    Decides-like (same_issue a b)
    (λ e. let p = e.0.0.0.0.0 in let q = e.0.0.0.0.1 in let r = e.0.0.0.1 in let s = e.0.0.1 in let t = e.0.1 in let u = e.1 in
    λ i. record { account = p i; device = q i; request = r i; key_print = s i; start = t i; end = u i })
    (λ e. (((((ap (λ x. x.account) e, ap (λ x. x.device) e), ap (λ x. x.request) e), ap (λ x. x.key_print) e), ap (λ x. x.start) e), ap (λ x. x.end) e))
    (Decides-and _ _ (Decides-and _ _ (Decides-and _ _ (Decides-and _ _ (Decides-and _ _
    (Decides-eqb a.account b.account) (Decides-eqb a.device b.device)) (Decides-eqb a.request b.request))
    (Decides-eqb a.key_print b.key_print)) (Decides-eqb a.start b.start)) (Decides-eqb a.end b.end))

abbrev pub issues : Values Issue
issues = record {
  Meaning = Issue;
  meaning = λ x. x;
  same = same_issue;
  same_is = same_issue_is;
  fit = fit_issue;
  Claim = Claim;
  claim = claim_of;
  same_claim = same_claim;
  same_claim_is = same_claim_is;
  account = λ x. x.account;
}
