use Rattle.std.proofs.Common.{◌≡◌, ℕ, ◌≤◌, sym, subst, arith}
use Rattle.ndc_domain.specs.Next.{IsNext, next_of}
use Rattle.ndc_domain.proofs.Least.{next_is}
use Rattle.ndc_domain.proofs.clusters.Clusters.next_version.Goals as goal

-- the number by remainders is the least one
pub returns-then-next-le-MAX_VERSION-clause-least :
    goal.returns-then-next-le-MAX_VERSION-clause-least
returns-then-next-le-MAX_VERSION-clause-least c =
    let P : ℕ → Type 0 = λ n. IsNext c.args.self.now c.args.old c.args.to n in
    subst P (sym c.next_of-next.ensures.next) (next_is c.args.self.now c.args.old c.args.to c.next_of-next.ensures.sound c.requires.to)

-- so any least one is as great
pub returns-else-next-le-MAX_VERSION-clause-limit :
    goal.returns-else-next-le-MAX_VERSION-clause-limit
returns-else-next-le-MAX_VERSION-clause-limit c = λ next is.
    let least : IsNext c.args.self.now c.args.old c.args.to (next_of c.args.self.now c.args.old c.args.to) =
    next_is c.args.self.now c.args.old c.args.to c.next_of-next.ensures.sound c.requires.to in
    let le : next_of c.args.self.now c.args.old c.args.to ≤ next = least.2 next is.0 is.1 in
    let e : c.next_of-next.result ≡ next_of c.args.self.now c.args.old c.args.to = c.next_of-next.ensures.next in
    omega (arith, le, e, c.if-next-le-MAX_VERSION.false)
