-- The contracts leave one result: what they say of the answer and of the memory lent settles both.
use mathlib.Core.Path.{◌≡◌, sym, ◌∙◌}
use Prim.Native.Nat.{ℕ}
use Rattle.rules.specs.Job.{Bytes}
use Rattle.rules.specs.Answers.{Answer}
use Rattle.text.specs.Printed.{TextLeft, BriefLeft, Printed}

module _ {job block : Bytes} {answer : Answer} {lent : ℕ} {out out' : Bytes} {r r' : Printed} where
  pub text-one : TextLeft job block answer lent out r → TextLeft job block answer lent out' r' → (out ≡ out') × (r ≡ r')
  text-one a b = (a.left ∙ sym b.left, a.answered ∙ sym b.answered)

  pub brief_one : BriefLeft job block answer lent out r → BriefLeft job block answer lent out' r' → (out ≡ out') × (r ≡ r')
  brief_one a b = (a.left ∙ sym b.left, a.answered ∙ sym b.answered)
