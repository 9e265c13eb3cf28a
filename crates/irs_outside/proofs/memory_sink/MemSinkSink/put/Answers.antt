use Rattle.std.proofs.Common.{◌≡◌, ℕ, List, ◌++◌, take, drop, Some, ap, sym, ◌∙◌, take-append-drop}
use Rattle.irs_outside.specs.Outside.{SinkSeen}
use Rattle.irs_outside.proofs.memory_sink.MemSinkSink.put.Goals as goal

pub returns-clause-err : goal.returns-clause-err
returns-clause-err c =
    let front = take c.left-left.result c.args.bytes.now in
    let after : take c.self-2.inside.used c.self-2.inside.room.items
    ≡ take c.self.inside.used c.self.inside.room.items ++ front =
    ap (λ (s : SinkSeen). s.written) (c.self-2.view_is ∙ c.append-2.ensures) in
    let before : take c.self.inside.used c.self.inside.room.items ≡ c.args.self.now.written =
    ap (λ (s : SinkSeen). s.written) c.self.view_is in (
      front,
      (drop c.left-left.result c.args.bytes.now, sym (take-append-drop c.left-left.result c.args.bytes.now)),
      ap Some (after ∙ ap (λ (w : List ℕ). w ++ front) before),
    )
