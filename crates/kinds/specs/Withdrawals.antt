-- What a withdrawal means: its serial.
use Rattle.std.specs.Prelude.{ℕ, ◌/◌, ◌^◌, not, ◌==◌, nat_eq}
use Rattle.std.proofs.lemmas.Bool.Decides.{Decides-eqb}
use Rattle.runs.specs.Values.{Values}
use Rattle.kinds.specs.declared.withdrawal.Withdrawal.{Withdrawal}

-- fit unless 0; the claim is the serial, the account its top 16 bits
abbrev pub withdrawals : Values Withdrawal
withdrawals = record {
  Meaning = ℕ;
  meaning = λ x. x.serial;
  same = nat_eq;
  same_is = Decides-eqb;
  fit = λ n. not (n == 0);
  Claim = ℕ;
  claim = λ n. n;
  same_claim = nat_eq;
  same_claim_is = Decides-eqb;
  account = λ n. n / 2 ^ 48;
}
