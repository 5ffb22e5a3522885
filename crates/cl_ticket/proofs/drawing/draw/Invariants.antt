use Rattle.cl_value.specs.Views.{plain_what}
use Rattle.cl_ticket.proofs.drawing.draw.Given as goal

abbrev pub ghosts-draw_as : goal.ghosts-draw_as
ghosts-draw_as g a = record { site = a._site; what = plain_what a._what.now }
