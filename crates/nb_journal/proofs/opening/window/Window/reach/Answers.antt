use Rattle.std.proofs.Common.{◌≡◌, ℕ, List, Option, IfSome, length, take, drop, refl, sym, subst, ◌∙◌, arith}
use Rattle.std.specs.Vec.{with_items}
use Rattle.std.proofs.lemmas.List.{with_items_is}
use Rattle.nb_journal.proofs.Records.{read_is}
use Rattle.nb_journal.proofs.opening.window.Window.reach.Goals as goal

pub returns-in-Got-clause-sees : goal.returns-in-Got-clause-sees
returns-in-Got-clause-sees g c =
    let room : length c.deref_mut.result.now ≡ 65536 = grind (arith, c.deref_mut.ensures, c.self.invariant.0) in
    let same : (with_items c.self.inside.bytes c.read.new.buf).items ≡ c.read.new.buf = with_items_is c.self.inside.bytes c.read.new.buf (c.read.auto.buf ∙ c.deref_mut.ensures.len) in
    subst (λ (bytes : List ℕ). IfSome (g.D.Disk.tells.content c.read.new.self) (λ image. take c.in-Got.n bytes ≡ take 65536 (drop c.args.place image))) (sym same)
    (subst (λ (told : Option (List ℕ)). IfSome told (λ image. take c.in-Got.n c.read.new.buf ≡ take 65536 (drop c.args.place image))) (sym c.in-Got.ensures.content)
    (subst (λ (asked : ℕ). IfSome (g.D.Disk.tells.content c.args.disk.now) (λ image. take c.in-Got.n c.read.new.buf ≡ take asked (drop c.args.place image))) room
    (read_is (g.D.Disk.tells.content c.args.disk.now) c.args.place (length c.deref_mut.result.now) c.in-Got.n c.read.new.buf (take c.in-Got.n c.read.new.buf) c.in-Got.ensures.gives.1 refl)))
