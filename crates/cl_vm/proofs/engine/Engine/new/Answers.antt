use Rattle.std.proofs.Common.{◌≡◌, ◌∙◌, List, ap, arith, length, map, refl}
use Rattle.std.specs.Prelude.{ℤ}
use Rattle.cl_code.specs.Plain.{plain_program, plain_function}
use Rattle.cl_code.specs.declared.function.Function.{Function}
use Rattle.cl_vm.specs.Memory.{Memory}
use Rattle.cl_vm.specs.Begins.{highest_of, most_of}
use Rattle.cl_vm.proofs.Fresh.{are_most}
use Rattle.cl_vm.proofs.engine.Engine.new.Goals as goal

pub returns : goal.returns
returns c =
    let p = plain_program c.args.program.now in
    let highest : c.highest_of-highest.result ≡ highest_of p.functions = c.highest_of-highest.ensures ∙ ap (λ (fs : List Function). highest_of (map plain_function fs)) c.functions-functions.ensures in
    let most : c.most_of-most.result ≡ most_of p.functions = c.most_of-most.ensures ∙ ap (λ (fs : List Function). most_of (map plain_function fs)) c.functions-functions.ensures in
    let m = c.in_ok-memory.ensures in
    let few = c.globals_of-globals.ensures.few in
    let globals = ap (λ (x : Memory). x.globals) m in
    let cells = ap (λ (x : Memory). x.cell_room) m in
    let same = ap (λ (xs : List ℤ). length xs) globals in
    record {
      highest = c.highest_of-highest.result;
      most = c.most_of-most.result;
      are_most = record { stacks = λ k f is. let h = (are_most p).stacks k f is in omega (arith, h, highest); temporaries = λ k f is. let h = (are_most p).temporaries k f is in omega (arith, h, most) };
      globals = λ small. globals ∙ c.globals_of-globals.ensures.same small;
      few = omega (arith, same, few);
      frame = ap (λ (x : Memory). x.frame) m;
      stack = ap (λ (x : Memory). x.stack) m;
      frames = ap (λ (x : Memory). x.frames) m;
      space = ap (λ (x : Memory). x.space) m;
      cell_room = omega (arith, cells, same, few);
      frame_room = ap (λ (x : Memory). x.frame_room) m;
      ticks = refl;
      depth_is = refl;
      output = c.in-Ok.ensures.items;
      output_room = c.in-Ok.ensures.capacity;
    }
