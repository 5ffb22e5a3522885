-- The grammar fits: the next token always tells how to go on.
use Rattle.std.proofs.Common.{◌≡◌, true, refl}
use Rattle.cl_rules.specs.Fit.{fits, symbol_fits, Fits}
use Rattle.cl_ast.specs.Grammar.{unit}
use Rattle.cl_ast.specs.Grammar.{index, arguments, fields, block, place, primary, unary, product, sum, order, equality, conjunction, expr, spanned, field, simple, plain, statement, given, declarator, variables, params, item}
use Rattle.cl_ast.specs.Tables.{bounds}

index_fits : symbol_fits bounds index ≡ true
index_fits = refl

arguments_fits : symbol_fits bounds arguments ≡ true
arguments_fits = refl

fields_fits : symbol_fits bounds fields ≡ true
fields_fits = refl

block_fits : symbol_fits bounds block ≡ true
block_fits = refl

place_fits : symbol_fits bounds place ≡ true
place_fits = refl

primary_fits : symbol_fits bounds primary ≡ true
primary_fits = refl

unary_fits : symbol_fits bounds unary ≡ true
unary_fits = refl

product_fits : symbol_fits bounds product ≡ true
product_fits = refl

sum_fits : symbol_fits bounds sum ≡ true
sum_fits = refl

order_fits : symbol_fits bounds order ≡ true
order_fits = refl

equality_fits : symbol_fits bounds equality ≡ true
equality_fits = refl

conjunction_fits : symbol_fits bounds conjunction ≡ true
conjunction_fits = refl

expr_fits : symbol_fits bounds expr ≡ true
expr_fits = refl

spanned_fits : symbol_fits bounds spanned ≡ true
spanned_fits = refl

field_fits : symbol_fits bounds field ≡ true
field_fits = refl

simple_fits : symbol_fits bounds simple ≡ true
simple_fits = refl

plain_fits : symbol_fits bounds plain ≡ true
plain_fits = refl

statement_fits : symbol_fits bounds statement ≡ true
statement_fits = refl

given_fits : symbol_fits bounds given ≡ true
given_fits = refl

declarator_fits : symbol_fits bounds declarator ≡ true
declarator_fits = refl

variables_fits : symbol_fits bounds variables ≡ true
variables_fits = refl

params_fits : symbol_fits bounds params ≡ true
params_fits = refl

item_fits : symbol_fits bounds item ≡ true
item_fits = refl

pub grammar_fits : Fits bounds
grammar_fits index = index_fits
grammar_fits arguments = arguments_fits
grammar_fits fields = fields_fits
grammar_fits block = block_fits
grammar_fits place = place_fits
grammar_fits primary = primary_fits
grammar_fits unary = unary_fits
grammar_fits product = product_fits
grammar_fits sum = sum_fits
grammar_fits order = order_fits
grammar_fits equality = equality_fits
grammar_fits conjunction = conjunction_fits
grammar_fits expr = expr_fits
grammar_fits spanned = spanned_fits
grammar_fits field = field_fits
grammar_fits simple = simple_fits
grammar_fits plain = plain_fits
grammar_fits statement = statement_fits
grammar_fits given = given_fits
grammar_fits declarator = declarator_fits
grammar_fits variables = variables_fits
grammar_fits params = params_fits
grammar_fits item = item_fits

pub unit_fits : fits bounds unit ≡ true
unit_fits = refl
