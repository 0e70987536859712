-- RULES 15: the printed text.
use Rattle.std.specs.Prelude.{cond, [], ◌∷◌, ◌++◌, ℕ, zero, suc, ◌+◌, ◌/◌, ◌%◌, ltb, length}
use Prim.Native.Char.{code}
use Prim.Native.String as S
use Prim.Native.String.{String}
use Rattle.graph.specs.Below.{gather}
use Rattle.rules.specs.Answers.{number, place}
use Rattle.rules.specs.Job.{Bytes}
use Rattle.rules.specs.Lent.{Lent}
use Rattle.rules.specs.Types.{Node, node_at}
use Rattle.rules.specs.Links.{link_at}
use Rattle.rules.specs.Run.{Network}
use Rattle.rules.specs.Result.{sampled_in}
use Rattle.rules.specs.Call.{Verdict, refused, found, verdict}
use Rattle.rules.specs.declared.Link.{Link}
use Rattle.rules.specs.declared.Origin.{Origin}
use Rattle.rules.specs.declared.Origin.TheVariants.{Sampled, Inferred}

-- RULES 15.1: the bytes of a text.
unfoldable pub text : String → Bytes
text S.[] = []
text (S.◌∷◌ c s) = code c ∷ text s

-- RULES 15.1: a number in decimals, of so many digits at most. It never has more than n + 1 (proofs/Decimals.antt).
unfoldable pub digits : ℕ → ℕ → Bytes
digits zero n = []
digits (suc most) n =
    let longer = digits most (n / 10) ++ ((48 + n % 10) ∷ []) in
    cond (ltb n 10) ((48 + n) ∷ []) longer

abbrev pub decimal : ℕ → Bytes
decimal n = digits (suc n) n

-- RULES 15.1: a word and a number behind it.
abbrev pub say : String → ℕ → Bytes
say s n = text s ++ decimal n

-- RULES 15.2: the line of a type.
abbrev pub origin_text : Origin → Bytes
origin_text (Sampled rows first) = say " S " rows
origin_text (Inferred round) = say " I " round

unfoldable pub type_line : ℕ → Node → Bytes
type_line k t = say "T " k ++ origin_text t.origin ++ text " " ++ t.row ++ text "\n"

-- RULES 15.3: the line of a link.
unfoldable pub link_line : Link → Bytes
link_line l = say "L " l.low ++ say " " l.high ++ say " " l.length ++ text "\n"

-- RULES 15.1: all lines of a network.
unfoldable pub network_text : Network → Bytes
network_text net =
    let ts = net.types in
    let ls = net.links in
    say "types " (length ts) ++ say " sampled " (sampled_in ts) ++ say " links " (length ls) ++ say " rounds " net.rounds ++ text "\n"
    ++ gather (length ts) (λ k. type_line k (node_at ts k))
    ++ gather (length ls) (λ k. link_line (link_at ls k))

-- RULES 15.4: the line of a refusal, or the network's lines.
abbrev pub verdict_text : Verdict → Bytes
verdict_text (refused a) = say "refused " (number a) ++ say " " (place a) ++ text "\n"
verdict_text (found net) = network_text net

-- RULES 15.1, 15.4: what a job prints.
unfoldable pub printed : Lent → Bytes → Bytes
printed lent job = verdict_text (verdict lent job)
